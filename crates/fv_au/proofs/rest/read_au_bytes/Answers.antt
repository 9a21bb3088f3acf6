use Rattle.std.proofs.Common.{refl, arith, rules}
use Rattle.fv_au.proofs.KeptBytes.{all_taken}
use Rattle.fv_au.proofs.rest.read_au_bytes.Goals as goal

pub returns-clause-ok : goal.returns-clause-ok
returns-clause-ok g c =
    let r = c.in_ok-bytes.ensures in
    record {
      bytes = c.in_ok-bytes.bytes.items;
      long = refl;
      takes = r.takes;
      steady = search rules;
      told = λ t. all_taken 4294967259 c.in_ok-bytes.bytes.items _ _ (r.taken t).0 (r.taken t).1 (omega arith);
    }
