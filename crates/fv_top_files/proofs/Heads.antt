-- The head of an input, and the bytes after it.
use Rattle.std.proofs.Common.{◌≡◌, ℕ, ◌+◌, ◌-◌, ◌<◌, ◌≤◌, List, [], ◌++◌, length, take, drop, sym, ◌∙◌, ap, arith, refl}
use Rattle.std.proofs.Common.{inl, inr, ⊎_elim, take_all, take_at, append_assoc, length-append}
use Rattle.std.specs.Prelude.{IsTrue, Result, Ok, Err, Option, Some, None, is_none, true, false, bytes_eq, codes}
use Rattle.std.proofs.lemmas.Bool.{cases_lt, le-leb, lt-leb}
use Rattle.std.proofs.lemmas.List.{drop_at, append-nil}
use Rattle.fv_outside.specs.Role.TheVariants.{Input}
use Rattle.fv_outside.specs.headline.Desk.{DeskState, File, file_named}
use Rattle.fv_outside.specs.Desk.{Takes}
use Rattle.fv_outside.proofs.lemmas.States.{told_before, fault_earlier, unfailing_later}
use Rattle.fv_pcm.specs.headline.Sizes.{data_limit}
use Rattle.fv_wav.specs.declared.head.Head.{Head}
use Rattle.fv_wav.specs.declared.refusal.WaveRefusal.{WaveRefusal}
use Rattle.fv_wav.specs.declared.refusal.WaveRefusal.TheVariants as head
use Rattle.fv_wav.specs.headline.Reading.{wave}
use Rattle.fv_wav.specs.Stopping.{Stops, IsFaultOfInput}
use Rattle.fv_au.specs.declared.head.AuHead.{AuHead}
use Rattle.fv_au.specs.declared.refusal.AuRefusal.{AuRefusal}
use Rattle.fv_au.specs.declared.refusal.AuRefusal.TheVariants as au_head
use Rattle.fv_au.specs.headline.Reading.{au}
use Rattle.fv_au.specs.Stopping.{AuStops, RestStops}
use Rattle.fv_top_words.specs.declared.manner.InputKind.{InputKind}
use Rattle.fv_top_words.specs.declared.manner.InputKind.TheVariants as kinds
use Rattle.fv_top_report.specs.declared.refusal.Refusal.{Refusal}
use Rattle.fv_top_report.specs.declared.refusal.Refusal.TheVariants.{ReadFault, AuFormat}
use Rattle.fv_top_report.specs.headline.Layers.{of_wave, of_au}
use Rattle.fv_file_tape.specs.declared.incoming.Incoming.{Incoming}
use Rattle.fv_top_files.specs.headline.Inputs.{wave_incoming, au_incoming}
use Rattle.fv_top_files.specs.headline.Sources.{Source, headed, wave_source, au_source, sized_source, open_source, file_source, is_au}
use Rattle.fv_top_files.specs.headline.Loading.{HasInput}
use Rattle.fv_top_files.specs.Loading.{ReadsFile, StopsLoading, HasHead, IsHeadRefusal}
use Rattle.fv_top_files.specs.inner.Loading.{StopsHead, GivesHead}
use Rattle.fv_top_files.proofs.lemmas.Loads.{cannot_later}

pub head_none : (kind : InputKind) (files : List File) (left : List ℕ) → HasHead kind None files None None left
head_none kind files left = record {
  source = record { head = None; bytes = [] };
  input = record { bytes = None; file = refl; is = refl };
  is = refl;
  behind = tt;
}

-- what is said of the file that was begun is said of the input
pub head_of_file : (kind : InputKind) (name : List ℕ) (files : List File) (bytes : List ℕ) (h : Option Incoming) (held : Option (List ℕ)) (left : List ℕ)
    → file_named name files ≡ Some bytes → GivesHead (file_source kind bytes) h held left → HasHead kind (Some name) files h held left
head_of_file kind name files bytes h held left file g = record {
  source = g.source;
  input = record { bytes = Some bytes; file = rw file refl; is = g.says_so };
  is = g.is;
  behind = g.behind;
}

-- what stops the reading of the file that was begun stops the loading of the input
pub head_stops : {kind : InputKind} {name : List ℕ} {a b c : DeskState} (e : Refusal) → ReadsFile Input (Some name) a b
    → (IsTrue a.tells → file_named name a.files ≡ Some (b.left Input))
    → StopsHead IsHeadRefusal (file_source kind (b.left Input)) b c e
    → StopsLoading Input (Some name) IsHeadRefusal (λ r. HasInput kind (Some name) a.files (Err r)) a c e
head_stops e p file (inl h) = inl (h.0, cannot_later p h.1.counted h.1.due)
head_stops {b = b} e p file (inr (inl h)) =
    inr (inl (h.0, λ t. record { bytes = Some (b.left Input); file = rw (file t) refl; is = h.1 (told_before p.quiet.goes_on t) }))
head_stops e p file (inr (inr m)) = inr (inr m)

-- ---- what was taken before, and then

-- n bytes of a file were taken, some of them before
pub record IsTaken (begun taken left new : List ℕ) (n : ℕ) : Type 0 where
  pub long : length begun + length taken ≡ n
  pub is : left ≡ taken ++ new

pub taken_behind : {begun taken left new : List ℕ} {n : ℕ} → IsTaken begun taken left new n → new ≡ drop n (begun ++ left)
taken_behind {begun} {taken} {left} {new} {n} t =
    sym (drop_at (begun ++ taken) new n (length-append begun taken ∙ t.long)) ∙ ap (drop n) (append_assoc begun taken new)
    ∙ ap (λ (ys : List ℕ). drop n (begun ++ ys)) (sym t.is)

pub taken_length : {begun taken left new : List ℕ} {n : ℕ} → IsTaken begun taken left new n → length (begun ++ left) ≡ n + length new
taken_length {begun} {taken} {left} {new} {n} t =
    let long = t.long in
    omega (arith, length-append begun left, ap length t.is, length-append taken new)

-- ---- a WAV file

pub wave_gives : (h : Head) (begun taken left new : List ℕ) → wave (begun ++ left) ≡ Ok h → IsTaken begun taken left new h.place
    → GivesHead (wave_source (begun ++ left) (wave (begun ++ left))) (Some (wave_incoming h)) None new
wave_gives h begun taken left new is t = record {
  source = headed (wave_incoming h) (begun ++ left);
  says_so = ap (wave_source (begun ++ left)) is;
  is = refl;
  behind = (refl, taken_behind t, omega (arith, taken_length t));
}

pub wave_stops : (e : WaveRefusal) (r : Refusal) (bytes : List ℕ) {a b : DeskState} → r ≡ of_wave e → Stops (wave bytes ≡ Err e) a b e
    → StopsHead IsHeadRefusal (wave_source bytes (wave bytes)) a b r
wave_stops (head.ReadFault role) r bytes is s = inl (is ∙ ap ReadFault s.cause.0, s.cause.1)
wave_stops (head.NotWave place) r bytes is s = rw is (inr (inl (refl, λ t. ap (wave_source bytes) (s.cause.told t))))
wave_stops (head.WaveTruncated place) r bytes is s = rw is (inr (inl (refl, λ t. ap (wave_source bytes) (s.cause.told t))))
wave_stops (head.WaveFormat place) r bytes is s = rw is (inr (inl (refl, λ t. ap (wave_source bytes) (s.cause.told t))))
wave_stops (head.WaveChunks place) r bytes is s = rw is (inr (inl (refl, λ t. ap (wave_source bytes) (s.cause.told t))))

-- ---- an AU file

-- of a size that is stated
pub au_gives : (h : AuHead) (size : ℕ) (begun taken left new : List ℕ) → au (begun ++ left) ≡ Ok h → h.data_bytes ≡ Some size
    → IsTaken begun taken left new h.offset → GivesHead (au_source (begun ++ left) (au (begun ++ left))) (Some (au_incoming h size)) None new
au_gives h size begun taken left new is stated t = record {
  source = headed (au_incoming h size) (begun ++ left);
  says_so = ap (au_source (begun ++ left)) is ∙ ap (sized_source (begun ++ left) h) stated;
  is = refl;
  behind = (ap is_none stated, taken_behind t, omega (arith, taken_length t));
}

-- of one that is not
sized_open : (h : AuHead) (begun taken left new : List ℕ) → au (begun ++ left) ≡ Ok h → h.data_bytes ≡ None → IsTaken begun taken left new h.offset
    → au_source (begun ++ left) (au (begun ++ left)) ≡ open_source (begun ++ left) h (length new)
sized_open h begun taken left new is none t =
    let rest : length (begun ++ left) - h.offset ≡ length new = omega (arith, taken_length t) in
    ap (au_source (begun ++ left)) is ∙ ap (sized_source (begun ++ left) h) none ∙ ap (open_source (begun ++ left) h) rest

pub open_gives : (h : AuHead) (begun taken left held new : List ℕ) → au (begun ++ left) ≡ Ok h → h.data_bytes ≡ None
    → IsTaken begun taken left held h.offset → length held ≤ data_limit → new ≡ []
    → GivesHead (au_source (begun ++ left) (au (begun ++ left))) (Some (au_incoming h (length held))) (Some held) new
open_gives h begun taken left held new is none t few nothing =
    let fits = le-leb (length held) data_limit few in
    record {
      source = headed (au_incoming h (length held)) (begun ++ left);
      says_so = sized_open h begun taken left held is none t ∙ rw fits refl;
      is = refl;
      behind = (ap is_none none, taken_behind t, omega (arith, taken_length t), refl, nothing);
    }

-- or of more bytes than a head can state
pub open_refused : (h : AuHead) (begun taken left new : List ℕ) → au (begun ++ left) ≡ Ok h → h.data_bytes ≡ None → IsTaken begun taken left new h.offset
    → data_limit < length new → au_source (begun ++ left) (au (begun ++ left)) ≡ Err (AuFormat 8)
open_refused h begun taken left new is none t many =
    let over = lt-leb (length new) data_limit many in
    sized_open h begun taken left new is none t ∙ rw over refl

pub au_stops : (e : AuRefusal) (r : Refusal) (bytes : List ℕ) {a b : DeskState} → r ≡ of_au e → AuStops (au bytes ≡ Err e) a b e
    → StopsHead IsHeadRefusal (au_source bytes (au bytes)) a b r
au_stops (au_head.ReadFault role) r bytes is s = inl (is ∙ ap ReadFault s.cause.0, s.cause.1)
au_stops (au_head.AuFormat place) r bytes is s = rw is (inr (inl (refl, λ t. ap (au_source bytes) (s.cause.told t))))
au_stops (au_head.AuTruncated place) r bytes is s = rw is (inr (inl (refl, λ t. ap (au_source bytes) (s.cause.told t))))
au_stops au_head.NoMemory r bytes is s = absurd s.cause

-- ---- the first bytes, which say what kind of file it is

-- of the first four bytes these were taken, which are all that are there
pub record IsBegun (front : List ℕ) (a b : DeskState) : Type 0 where
  pub takes : Takes Input front a b
  pub few : length front ≤ 4
  pub end : length front < 4 → IsTrue a.tells → b.left Input ≡ []

front_is : {front : List ℕ} {a b : DeskState} → IsBegun front a b → IsTrue a.tells → take 4 (front ++ b.left Input) ≡ front
front_is {front} {b = b} f t =
    ⊎_elim
    (λ (w : length front < 4). ap (λ (ys : List ℕ). take 4 (front ++ ys)) (f.end w t) ∙ ap (take 4) (append-nil front) ∙ take_all 4 front f.few)
    (λ (w : 4 ≤ length front). take_at front (b.left Input) 4 (omega (arith, f.few))) (cases_lt (length front) 4)

-- an input of either kind is an AU file, or a WAV file
pub either_au : {front : List ℕ} {a b : DeskState} → IsBegun front a b → bytes_eq front (codes ".snd") ≡ true → IsTrue a.tells
    → file_source kinds.Either (a.left Input) ≡ au_source (front ++ b.left Input) (au (front ++ b.left Input))
either_au {front} {b = b} f e t =
    let is : is_au (front ++ b.left Input) ≡ true = ap (λ (ys : List ℕ). bytes_eq ys (codes ".snd")) (front_is f t) ∙ e in
    ap (file_source kinds.Either) (f.takes.taken t) ∙ rw is refl

pub either_wave : {front : List ℕ} {a b : DeskState} → IsBegun front a b → bytes_eq front (codes ".snd") ≡ false → IsTrue a.tells
    → file_source kinds.Either (a.left Input) ≡ wave_source (front ++ b.left Input) (wave (front ++ b.left Input))
either_wave {front} {b = b} f e t =
    let is : is_au (front ++ b.left Input) ≡ false = ap (λ (ys : List ℕ). bytes_eq ys (codes ".snd")) (front_is f t) ∙ e in
    ap (file_source kinds.Either) (f.takes.taken t) ∙ rw is refl

-- what is said otherwise
pub gives_as : {P Q : Result Source Refusal} {h : Option Incoming} {held : Option (List ℕ)} {left : List ℕ} → P ≡ Q → GivesHead Q h held left
    → GivesHead P h held left
gives_as e g = record { source = g.source; says_so = e ∙ g.says_so; is = g.is; behind = g.behind }

-- ---- the same from an earlier state on

due_earlier : {xs : List ℕ} {a b c : DeskState} → Takes Input xs a b → IsFaultOfInput b c → IsFaultOfInput a c
due_earlier {c = c} q h = record {
  counted = fault_earlier c Input q.goes_on h.counted;
  due = λ t u. h.due (told_before q.goes_on t) (unfailing_later Input q.goes_on t u);
}

pub stops_earlier : {xs : List ℕ} {a b c : DeskState} (Kind : Refusal → Type 0) (P Q : Result Source Refusal) (e : Refusal) → Takes Input xs a b
    → (IsTrue a.tells → P ≡ Q) → StopsHead Kind Q b c e → StopsHead Kind P a c e
stops_earlier Kind P Q e q same (inl h) = inl (h.0, due_earlier q h.1)
stops_earlier Kind P Q e q same (inr (inl h)) = inr (inl (h.0, λ t. same t ∙ h.1 (told_before q.goes_on t)))
stops_earlier Kind P Q e q same (inr (inr m)) = inr (inr m)

-- the samples of a size that is not stated could not be read
pub rest_stops : {xs : List ℕ} {a b c : DeskState} (e : AuRefusal) (r : Refusal) (bytes : List ℕ) → r ≡ of_au e → Takes Input xs a b
    → (IsTrue a.tells → data_limit < length (b.left Input) → au_source bytes (au bytes) ≡ Err (AuFormat 8))
    → RestStops b c e → StopsHead IsHeadRefusal (au_source bytes (au bytes)) a c r
rest_stops (au_head.ReadFault role) r bytes is q many s = inl (is ∙ ap ReadFault s.cause.0, due_earlier q s.cause.1)
rest_stops (au_head.AuFormat place) r bytes is q many s =
    rw is (inr (inl (refl, λ t. many t (s.cause.1.told (told_before q.goes_on t)) ∙ ap (λ (p : ℕ). Err (AuFormat p)) (sym s.cause.0))))
rest_stops (au_head.AuTruncated place) r bytes is q many s = absurd s.cause
rest_stops au_head.NoMemory r bytes is q many s = inr (inr is)
