use denote.Param.Send.{IsSend, owning_send}
use Rattle.fv_pool.specs.contracts.loan.Link.{the_row, the_type}

pub send : IsSend the_row
send = owning_send the_type tt (λ d ws. (tt, tt)) (λ k x w. tt)
