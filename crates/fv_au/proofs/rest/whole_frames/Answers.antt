use Rattle.std.proofs.Common.{◌≡◌, List, ℤ, length, refl, subst}
use Rattle.std.specs.Prelude.{IfOk}
use Rattle.fv_pcm.specs.declared.coding.Coding.TheVariants.{Au}
use Rattle.fv_pcm.proofs.lemmas.Samples.{samples_first}
use Rattle.fv_au.specs.Reading.{whole_samples}
use Rattle.fv_au.proofs.rest.whole_frames.Goals as goal

pub returns : goal.returns
returns c =
    subst (λ (ys : List ℤ). IfOk c.decoded.result (λ v. v.items ≡ ys))
    (samples_first Au c.args.head.now.bits (whole_samples c.args.head.now (length c.args.bytes.now)) _ c.args.bytes.now c.requires.bits refl)
    c.decoded.ensures
