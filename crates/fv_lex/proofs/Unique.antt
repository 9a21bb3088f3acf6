-- A text has one answer at most.
use Rattle.std.proofs.Common.{◌≡◌, ℕ, ◌<◌, ◌≤◌, List, ◌∷◌, ◌++◌, length, take, drop, Option, Some, None, Result, Ok, Err, IfOk, IfErr, refl, sym, ap, subst}
use Rattle.std.proofs.Common.{◌∙◌, arith, ◌⊎◌, inl, inr}
use Rattle.std.proofs.lemmas.List.{take_at, drop_at}
use Rattle.fv_lex.specs.declared.token.Kind.{Kind}
use Rattle.fv_lex.specs.declared.refusal.Fault.{Fault}
use Rattle.fv_lex.specs.declared.refusal.Fault.TheVariants as faults
use Rattle.fv_lex.specs.declared.refusal.LexRefusal.{LexRefusal}
use Rattle.fv_lex.specs.declared.refusal.LexRefusal.TheVariants.{NoMemory}
use Rattle.fv_lex.specs.declared.next.Next.TheVariants.{End, Found, Refused}
use Rattle.fv_lex.specs.headline.Token.{Lexed}
use Rattle.fv_lex.specs.headline.Pieces.{IsPiece}
use Rattle.fv_lex.specs.inner.Steps.{next_piece}
use Rattle.fv_lex.specs.headline.Cuts.{depth_after, Cut, Cuts, nothing_more, piece_first, Ends, whole, faulty, too_deep, answer_of, Has, too_long, cut}
use Rattle.fv_lex.specs.Cuts.{HasTokens, HasRefusal, HasAtMostOne}
use Rattle.fv_lex.proofs.Complete.{piece_found, fault_refused}
use Rattle.fv_base.specs.declared.limits.TheConstants.{DEEPEST_NESTING}

same_front : (a r b s : List ℕ) → a ++ r ≡ b ++ s → length a ≡ length b → a ≡ b
same_front a r b s e l = sym (take_at a r (length a) refl) ∙ ap (take (length a)) e ∙ take_at b s (length a) (sym l)

same_back : (a r b s : List ℕ) → a ++ r ≡ b ++ s → length a ≡ length b → r ≡ s
same_back a r b s e l = sym (drop_at a r (length a) refl) ∙ ap (drop (length a)) e ∙ drop_at b s (length a) (sym l)

-- ---- one piece
pub record Same (a r b s : List ℕ) (j k : Option Kind) : Type 0 where
  pub bytes : a ≡ b
  pub rest : r ≡ s
  pub kind : j ≡ k

pub piece_unique : (a r b s : List ℕ) (j k : Option Kind) → IsPiece a r j → IsPiece b s k → a ++ r ≡ b ++ s → Same a r b s j k
piece_unique a r b s j k p q e =
    let found : Found (length a) j ≡ Found (length b) k = sym (piece_found a r j p) ∙ ap next_piece e ∙ piece_found b s k q in
    let counted : length a ≡ length b = cc in
    record { bytes = same_front a r b s e counted; rest = same_back a r b s e counted; kind = cc }

-- ---- where a cut ends
-- what the step gives there
abbrev Stopped : List ℕ → Option Fault → Type 0
Stopped text None = next_piece text ≡ End
Stopped text (Some fault) = (next_piece text ≡ Refused fault) ⊎ ((n : ℕ) × (kind : Option Kind) × (next_piece text ≡ Found n kind) × (fault ≡ faults.Nesting))

stopped : (text : List ℕ) (depth : ℕ) (fault : Option Fault) → Ends text depth fault → Stopped text fault
stopped text depth fault whole = refl
stopped text depth fault (faulty {fault = f} h) = inl (fault_refused text f h)
stopped text depth fault (too_deep {bytes} {rest} {kind = k} p deep) = inr (length bytes, k, piece_found bytes rest k p, refl)

stopped_unique : (text : List ℕ) (f g : Option Fault) → Stopped text f → Stopped text g → f ≡ g
stopped_unique text None None a b = refl
stopped_unique text None (Some g) a (inl b) = absurd cc
stopped_unique text None (Some g) a (inr (n, k, b, is)) = absurd cc
stopped_unique text (Some f) None (inl a) b = absurd cc
stopped_unique text (Some f) None (inr (n, k, a, is)) b = absurd cc
stopped_unique text (Some f) (Some g) (inl a) (inl b) = cc
stopped_unique text (Some f) (Some g) (inl a) (inr (n, k, b, is)) = absurd cc
stopped_unique text (Some f) (Some g) (inr (n, k, a, is)) (inl b) = absurd cc
stopped_unique text (Some f) (Some g) (inr (n, k, a, is)) (inr (m, j, b, also)) = cc

ends_unique : (t u : List ℕ) (d e : ℕ) (f g : Option Fault) → Ends t d f → Ends u e g → t ≡ u → f ≡ g
ends_unique t u d e f g a b same = stopped_unique u f g (subst (λ r. Stopped r f) same (stopped t d f a)) (stopped u e g b)

-- a cut does not end where a piece goes on
no_piece : (text : List ℕ) (d : ℕ) (f : Option Fault)
    → Ends text d f → (bytes rest : List ℕ) (kind : Option Kind) → IsPiece bytes rest kind → depth_after d bytes ≤ DEEPEST_NESTING → text ≡ bytes ++ rest → ⊥
no_piece text d f whole bytes rest kind p fits e =
    let found = piece_found bytes rest kind p in
    let never : End ≡ Found (length bytes) kind = ap next_piece e ∙ found in
    cc
no_piece text d f (faulty {fault = g} h) bytes rest kind p fits e =
    let never : Refused g ≡ Found (length bytes) kind = sym (fault_refused text g h) ∙ ap next_piece e ∙ piece_found bytes rest kind p in
    cc
no_piece text d f (too_deep {bytes = a} {rest = r} {kind = j} q deep) bytes rest kind p fits e =
    let same = piece_unique a r bytes rest j kind q p e in
    let back : DEEPEST_NESTING < depth_after d bytes = subst (λ b. DEEPEST_NESTING < depth_after d b) same.bytes deep in
    omega arith

-- ---- the whole cut
cut_unique : (t u r s : List ℕ) (d e h : ℕ) (cs ds : List Cut) (f g : Option Fault)
    → Cuts t d cs r e → Ends r e f → Cuts u d ds s h → Ends s h g → t ≡ u → (cs ≡ ds) × (f ≡ g)
cut_unique t u r s d e h cs ds f g nothing_more a nothing_more b same = (refl, ends_unique t u d d f g a b same)
cut_unique t u r s d e h cs ds f g nothing_more a (piece_first {bytes} {rest} {kind = k} p fits c) b same = absurd (no_piece t d f a bytes rest k p fits same)
cut_unique t u r s d e h cs ds f g (piece_first {bytes} {rest} {kind = k} p fits c) a nothing_more b same =
    absurd (no_piece u d g b bytes rest k p fits (sym same))
cut_unique t u r s d e h cs ds f g
    (piece_first {bytes = x} {rest = v} {kind = j} {cuts = ps} p fits c) a (piece_first {bytes = y} {rest = w} {kind = k} {cuts = qs} q also o) b same =
    let one = piece_unique x v y w j k p q same in
    let deep : depth_after d y ≡ depth_after d x = ap (depth_after d) (sym one.bytes) in
    let tail = cut_unique v w r s (depth_after d x) e h ps qs f g c a (subst (λ n. Cuts w n qs s h) deep o) b one.rest in (
      ap (λ z. record { bytes = z; kind = j } ∷ ps) one.bytes
          ∙ ap (λ z. record { bytes = y; kind = z } ∷ ps) one.kind ∙ ap (λ z. record { bytes = y; kind = k } ∷ z) tail.0,
      tail.1,
    )

pub at_most_one : HasAtMostOne
at_most_one text a b (too_long over) (too_long also) = refl
at_most_one text a b (too_long over) (cut fits c e) = absurd (omega arith)
at_most_one text a b (cut fits c e) (too_long over) = absurd (omega arith)
at_most_one text a b (cut {rest = r} {cuts = cs} {depth = d} {fault = f} fits c e) (cut {rest = s} {cuts = ds} {depth = h} {fault = g} also o i) =
    let same = cut_unique text text r s 0 d h cs ds f g c e o i refl in
    ap (λ z. answer_of z f) same.0 ∙ ap (λ z. answer_of ds z) same.1

-- an answer that the text has is the one
pub only_answer : (text : List ℕ) (r : Result Lexed LexRefusal) → IfOk r (HasTokens text)
    → IfErr r (λ e. (e ≡ NoMemory) ⊎ HasRefusal text e) → (answer : Result Lexed LexRefusal) → Has text answer → (r ≡ answer) ⊎ (r ≡ Err NoMemory)
only_answer text (Ok lexed) tokens refusal answer h = inl (at_most_one text (Ok lexed) answer tokens h)
only_answer text (Err e) tokens (inl is) answer h = inr (ap (λ x. Err x) is)
only_answer text (Err e) tokens (inr had) answer h = inl (at_most_one text (Err e) answer had h)
