use denote.Param.Send.{IsSend, owning_send}
use Rattle.fv_pool.specs.contracts.loan.Halves.{the_row, the_type}

pub send : IsSend the_row
send = owning_send the_type tt (λ d w. ((tt, tt), tt)) (λ k x w. tt)
