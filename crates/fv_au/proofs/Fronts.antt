-- What the first bytes say, which one transfer took.
use Rattle.std.proofs.Common.{◌≡◌, ℕ, ◌+◌, ◌-◌, ◌≤◌, ◌<◌, List, [], ◌++◌, length, take, sym, ap}
use Rattle.std.proofs.Common.{◌∙◌, arith, Ok, Err, length-append, length-take, append_assoc, ⊎_elim}
use Rattle.std.specs.Prelude.{Result, IsTrue, IfOk, IfErr}
use Rattle.std.proofs.lemmas.Bool.{cases_lt}
use Rattle.std.proofs.lemmas.List.{append-nil}
use Rattle.fv_base.specs.declared.role.Role.TheVariants.{Input}
use Rattle.fv_outside.specs.headline.Desk.{DeskState, KeepsFaults}
use Rattle.fv_outside.specs.Desk.{Takes, TakesSome}
use Rattle.fv_wav.specs.Stopping.{Passes, IsSaid}
use Rattle.fv_au.specs.headline.Reading.{head_of}
use Rattle.fv_au.specs.Stopping.{AuStops, IsOfBytes}
use Rattle.fv_au.specs.declared.head.AuHead.{AuHead}
use Rattle.fv_au.specs.declared.refusal.AuRefusal.{AuRefusal}
use Rattle.fv_au.specs.declared.refusal.AuRefusal.TheVariants.{ReadFault, AuFormat, AuTruncated, NoMemory}
use Rattle.fv_au.proofs.Heads.{head_front}

-- n bytes were taken after those that were taken before, of as many as make 24
pub record IsFront (begun : List ℕ) (n : ℕ) (to : List ℕ) (a b : DeskState) : Type 0 where
  pub asked : length begun + length to ≡ 24
  pub few : n ≤ length to
  pub takes : Takes Input (take n to) a b
  pub steady : KeepsFaults a b
  pub end : n < length to → IsTrue a.tells → b.left Input ≡ []

-- they say what the whole file says
same : (begun : List ℕ) (n : ℕ) (to : List ℕ) (a b : DeskState) → IsFront begun n to a b → IsTrue a.tells
    → head_of (begun ++ a.left Input) ≡ head_of (begun ++ take n to)
same begun n to a b f t =
    ap (λ (ys : List ℕ). head_of (begun ++ ys)) (f.takes.taken t)
    ∙ ⊎_elim (λ (w : n < length to). ap (λ (ys : List ℕ). head_of (begun ++ (take n to ++ ys))) (f.end w t)
    ∙ ap (λ (ys : List ℕ). head_of (begun ++ ys)) (append-nil (take n to)))
    (λ (w : length to ≤ n). ap head_of (sym (append_assoc begun (take n to) (b.left Input)))
    ∙ head_front (begun ++ take n to) (b.left Input) (omega (arith, length-append begun (take n to), length-take n to, f.asked, f.few, w)))
    (cases_lt n (length to))

pub front_ok : (begun : List ℕ) (n : ℕ) (to : List ℕ) (r : Result AuHead AuRefusal) (a b : DeskState) → IsFront begun n to a b
    → r ≡ head_of (begun ++ take n to) → IfOk r (λ _. 24 ≤ length (begun ++ take n to))
    → IfOk r (λ head. Passes (24 - length begun) ((head_of (begun ++ a.left Input) ≡ Ok head)
    × (length (begun ++ a.left Input) ≡ 24 + length (b.left Input))) a b)
front_ok begun n to (Ok head) a b f e l =
    let long : length (take n to) + length begun ≡ 24 = omega (arith, length-append begun (take n to), length-take n to, f.asked, f.few, l) in
    record {
      bytes = take n to;
      long = omega (arith, long);
      takes = f.takes;
      steady = f.steady;
      told = λ t. (
        same begun n to a b f t ∙ sym e,
        omega (arith, length-append begun (a.left Input), ap length (f.takes.taken t), length-append (take n to) (b.left Input), long),
      );
    }
front_ok begun n to (Err x) a b f e l = tt

-- a refusal that the bytes make
said_by_bytes : {P : Type 0} (x : AuRefusal) {a b : DeskState} → IsOfBytes x → TakesSome Input a b → IsSaid P a b → AuStops P a b x
said_by_bytes (ReadFault role) k t s = absurd k
said_by_bytes (AuFormat place) k t s = record { some = t; cause = s }
said_by_bytes (AuTruncated place) k t s = record { some = t; cause = s }
said_by_bytes NoMemory k t s = absurd k

pub front_err : (begun : List ℕ) (n : ℕ) (to : List ℕ) (r : Result AuHead AuRefusal) (a b : DeskState) → IsFront begun n to a b
    → r ≡ head_of (begun ++ take n to) → IfErr r IsOfBytes → IfErr r (λ x. AuStops (head_of (begun ++ a.left Input) ≡ Err x) a b x)
front_err begun n to (Ok head) a b f e k = tt
front_err begun n to (Err x) a b f e k =
    said_by_bytes x k (record { bytes = take n to; takes = f.takes })
    (record { steady = f.steady; told = λ t. same begun n to a b f t ∙ sym e })
