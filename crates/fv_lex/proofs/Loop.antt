-- One more piece of the text.
use Rattle.std.proofs.Common.{◌≡◌, ℕ, suc, ◌+◌, ◌-◌, ◌<◌, ◌≤◌, List, [], ◌∷◌, ◌++◌, length, take, drop, Option, Some}
use Rattle.std.proofs.Common.{None, Ok, Err, All, refl, sym, ap, subst, ◌∙◌, arith, append_assoc, length-append}
use Rattle.std.proofs.lemmas.List.{append-nil, take-append-drop, length-take, length-drop, drop-drop, take_at}
use Rattle.std.proofs.lemmas.List.Elements.{All-push}
use Rattle.std.proofs.lemmas.Bool.{lt-ltb}
use Rattle.std.specs.Prelude.{true, false, nat_lt}
use Rattle.fv_lex.specs.declared.token.Kind.{Kind}
use Rattle.fv_lex.specs.declared.token.Kind.TheVariants.{Sign}
use Rattle.fv_lex.specs.declared.token.Place.{Place}
use Rattle.fv_lex.specs.declared.token.Symbol.{Symbol}
use Rattle.fv_lex.specs.declared.token.Span.{Span}
use Rattle.fv_lex.specs.declared.refusal.Fault.{Fault}
use Rattle.fv_lex.specs.declared.refusal.Fault.TheVariants as faults
use Rattle.fv_lex.specs.declared.next.Next.TheVariants.{End, Found, Refused}
use Rattle.fv_lex.specs.headline.Token.{Token}
use Rattle.fv_lex.specs.Spans.{token_in, tokens_in, IsWithin, new_symbols, new_spans, HasSymbol}
use Rattle.fv_lex.specs.headline.Pieces.{IsPiece, longest_token}
use Rattle.fv_lex.specs.headline.Bytes.{is_letter, is_underscore, begins}
use Rattle.fv_lex.specs.headline.Symbols.{symbol_of}
use Rattle.std.specs.List.{prefix_len}
use Rattle.fv_lex.specs.inner.Steps.{bare_underscores, IsBare, next_piece}
use Rattle.fv_lex.specs.headline.Cuts.{depth_after, Cut, Cuts, nothing_more, piece_first, Ends, whole, faulty, too_deep}
use Rattle.fv_lex.specs.headline.Cuts.{first_place, place_after, token_of, tokens_of, end_of, refusal_at, answer_of, Has, cut}
use Rattle.fv_lex.proofs.TokenLists.{length-tokens_in}
use Rattle.fv_lex.proofs.lemmas.Runs.{prefix_len-passes}
use Rattle.fv_lex.proofs.lemmas.Sound.{At, Told, sound, wires_some, run_head}
use Rattle.fv_base.specs.declared.limits.TheConstants.{DEEPEST_NESTING, LONGEST_TEXT}

-- ---- a piece at the end of a cut
cuts_more : (text end : List ℕ) (cuts : List Cut) (depth deep : ℕ) → Cuts text depth cuts end deep
    → (bytes rest : List ℕ) (kind : Option Kind) → end ≡ bytes ++ rest → IsPiece bytes rest kind → depth_after deep bytes ≤ DEEPEST_NESTING
    → Cuts text depth (cuts ++ record { bytes = bytes; kind = kind } ∷ []) rest (depth_after deep bytes)
cuts_more text end cuts depth deep nothing_more bytes rest kind e p fits =
    subst (λ t. Cuts t depth (record { bytes = bytes; kind = kind } ∷ []) rest (depth_after depth bytes)) (sym e) (piece_first p fits nothing_more)
cuts_more text end cuts depth deep (piece_first {bytes = b} {rest = r} {cuts = cs} q room c) bytes rest kind e p fits =
    piece_first q room (cuts_more r end cs (depth_after depth b) deep c bytes rest kind e p fits)

end_more : (p : Place) (cuts : List Cut) (c : Cut) → end_of p (cuts ++ c ∷ []) ≡ place_after (end_of p cuts) c.bytes
end_more p [] c = refl
end_more p (d ∷ cuts) c = end_more (place_after p d.bytes) cuts c

tokens_more : (n : ℕ) (p : Place) (cuts : List Cut) (c : Cut)
    → tokens_of n p (cuts ++ c ∷ []) ≡ tokens_of n p cuts ++ token_of (n + length (tokens_of n p cuts)) (end_of p cuts) c.bytes c.kind
tokens_more n p [] c = append-nil (token_of n p c.bytes c.kind) ∙ ap (λ k. token_of k p c.bytes c.kind) (omega arith)
tokens_more n p (d ∷ cuts) c =
    let first = token_of n p d.bytes d.kind in
    let place = place_after p d.bytes in
    let behind = tokens_of (n + length first) place cuts in
    let counted : n + length first + length behind ≡ n + length (first ++ behind) = omega (arith, length-append first behind) in
    ap (λ l. first ++ l) (tokens_more (n + length first) place cuts c)
    ∙ sym (append_assoc first behind (token_of (n + length first + length behind) (end_of place cuts) c.bytes c.kind))
    ∙ ap (λ k. (first ++ behind) ++ token_of k (end_of place cuts) c.bytes c.kind) counted

-- ---- how far a text is read
-- The pieces up to a rest, the place and the depth there, and the tokens among them.
pub record Reads (text rest : List ℕ) (place : Place) (depth : ℕ) (out : List Token) : Type 0 where
  pub cuts : List Cut
  pub cut_is : Cuts text 0 cuts rest depth
  pub place_is : place ≡ end_of first_place cuts
  pub tokens_are : out ≡ tokens_of 0 first_place cuts

pub reads_start : (text : List ℕ) → Reads text text first_place 0 []
reads_start text = record { cuts = []; cut_is = nothing_more; place_is = refl; tokens_are = refl }

-- what the step found at the front of a rest
pub record Front (rest bytes after : List ℕ) (kind : Option Kind) : Type 0 where
  pub piece : IsPiece bytes after kind
  pub is : rest ≡ bytes ++ after
  pub some : 0 < length bytes

pub front_of : (rest bytes after : List ℕ) (n : ℕ) (kind : Option Kind)
    → next_piece rest ≡ Found n kind → bytes ≡ take n rest → after ≡ drop n rest → Front rest bytes after kind
front_of rest bytes after n kind e front back =
    let at : At rest n kind = subst (λ x. Told rest x) e (sound rest) in
    let some = at.some in
    let fits = at.fits in
    record {
      piece = subst (λ a. IsPiece bytes a kind) (sym back) (subst (λ b. IsPiece b (drop n rest) kind) (sym front) at.piece);
      is = sym (take-append-drop n rest) ∙ ap (λ b. b ++ drop n rest) (sym front) ∙ ap (λ a. bytes ++ a) (sym back);
      some = omega (arith, ap length front, length-take n rest);
    }

pub found_fits : (rest : List ℕ) (n : ℕ) (kind : Option Kind) → next_piece rest ≡ Found n kind → n ≤ length rest
found_fits rest n kind e = let at : At rest n kind = subst (λ x. Told rest x) e (sound rest) in at.fits

pub has_symbol : (bytes after : List ℕ) (kind : Option Kind) → IsPiece bytes after kind → HasSymbol kind bytes
has_symbol bytes after None p = tt
has_symbol bytes after (Some kind) (longest_token e longest comment unreal small) = (e, small)

pub reads_on : (text rest bytes after : List ℕ) (place next : Place) (depth : ℕ) (out : List Token) (kind : Option Kind)
    → Reads text rest place depth out → Front rest bytes after kind → depth_after depth bytes ≤ DEEPEST_NESTING
    → next ≡ place_after place bytes → Reads text after next (depth_after depth bytes) (out ++ token_of (length out) place bytes kind)
reads_on text rest bytes after place next depth out kind r f fits moved =
    let c : Cut = record { bytes = bytes; kind = kind } in
    let all = tokens_of 0 first_place r.cuts in
    let counted : 0 + length all ≡ length out = omega (arith, ap length r.tokens_are) in
    record {
      cuts = r.cuts ++ c ∷ [];
      cut_is = cuts_more text rest r.cuts 0 depth r.cut_is bytes after kind f.is f.piece fits;
      place_is = moved ∙ ap (λ q. place_after q bytes) r.place_is ∙ sym (end_more first_place r.cuts c);
      tokens_are = ap (λ o. o ++ token_of (length out) place bytes kind) r.tokens_are ∙ ap (λ q. all ++ token_of (length out) q bytes kind) r.place_is
          ∙ ap (λ k. all ++ token_of k (end_of first_place r.cuts) bytes kind) (sym counted) ∙ sym (tokens_more 0 first_place r.cuts c);
    }

pub reads_end : (text rest : List ℕ) (place : Place) (depth : ℕ) (out : List Token)
    → length text ≤ LONGEST_TEXT → Reads text rest place depth out → next_piece rest ≡ End → Has text (Ok (record { tokens = out; end = place }))
reads_end text rest place depth out fits r e =
    let empty : rest ≡ [] = subst (λ x. Told rest x) e (sound rest) in
    let h : Has text (answer_of r.cuts None) = cut fits (subst (λ t. Cuts text 0 r.cuts t depth) empty r.cut_is) whole in
    subst (λ o. Has text (Ok (record { tokens = o; end = place })))
    (sym r.tokens_are) (subst (λ p. Has text (Ok (record { tokens = tokens_of 0 first_place r.cuts; end = p }))) (sym r.place_is) h)

pub reads_fault : (text rest : List ℕ) (place : Place) (depth : ℕ) (out : List Token) (fault : Fault)
    → length text ≤ LONGEST_TEXT → Reads text rest place depth out → next_piece rest ≡ Refused fault → Has text (Err (refusal_at place fault))
reads_fault text rest place depth out fault fits r e =
    let h : Has text (answer_of r.cuts (Some fault)) = cut fits r.cut_is (faulty (subst (λ x. Told rest x) e (sound rest))) in
    subst (λ p. Has text (Err (refusal_at p fault))) (sym r.place_is) h

pub reads_deep : (text rest bytes after : List ℕ) (place : Place) (depth : ℕ) (out : List Token) (kind : Option Kind)
    → length text ≤ LONGEST_TEXT → Reads text rest place depth out → Front rest bytes after kind → DEEPEST_NESTING < depth_after depth bytes
    → Has text (Err (refusal_at place faults.Nesting))
reads_deep text rest bytes after place depth out kind fits r f deep =
    let h : Has text (answer_of r.cuts (Some faults.Nesting)) =
    cut fits r.cut_is (subst (λ t. Ends t depth (Some faults.Nesting)) (sym f.is) (too_deep f.piece deep)) in
    subst (λ p. Has text (Err (refusal_at p faults.Nesting))) (sym r.place_is) h

-- ---- the symbols and spans of one more piece
one_more : (text : List ℕ) (symbols : List Symbol) (spans : List Span) (s : Symbol) (p : Span)
    → length symbols ≡ length spans → tokens_in text (symbols ++ s ∷ []) (spans ++ p ∷ []) ≡ tokens_in text symbols spans ++ token_in text s p ∷ []
one_more text [] [] s p e = refl
one_more text [] (q ∷ spans) s p e = absurd (omega arith)
one_more text (t ∷ symbols) [] s p e = absurd (omega arith)
one_more text (t ∷ symbols) (q ∷ spans) s p e = ap (λ l. token_in text t q ∷ l) (one_more text symbols spans s p (omega arith))

pub tokens_in_more : (text bytes : List ℕ) (symbols : List Symbol) (spans : List Span) (kind : Option Kind) (start n : ℕ) (place : Place)
    → length symbols ≡ length spans → n ≡ length (tokens_in text symbols spans) → bytes ≡ take (length bytes) (drop start text)
    → tokens_in text (symbols ++ new_symbols n kind bytes) (spans ++ new_spans kind start bytes place)
    ≡ tokens_in text symbols spans ++ token_of (length (tokens_in text symbols spans)) place bytes kind
tokens_in_more text bytes symbols spans None start n place paired counted part =
    ap (λ l. tokens_in text l (spans ++ [])) (append-nil symbols)
    ∙ ap (λ l. tokens_in text symbols l) (append-nil spans) ∙ sym (append-nil (tokens_in text symbols spans))
tokens_in_more text bytes symbols spans (Some kind) start n place paired counted part =
    let all = tokens_in text symbols spans in
    one_more text symbols spans (symbol_of n kind bytes) (record { kind = kind; start = start; length = length bytes; place = place }) paired
    ∙ ap (λ k. all ++ record { symbol = symbol_of k kind bytes; kind = kind; text = take (length bytes) (drop start text); place = place } ∷ []) counted
    ∙ ap (λ b. all ++ record { symbol = symbol_of (length all) kind bytes; kind = kind; text = b; place = place } ∷ []) (sym part)

pub paired_more : (symbols : List Symbol) (spans : List Span) (n : ℕ) (kind : Option Kind) (bytes : List ℕ) (start : ℕ) (place : Place)
    → length symbols ≡ length spans → length (symbols ++ new_symbols n kind bytes) ≡ length (spans ++ new_spans kind start bytes place)
paired_more symbols spans n None bytes start place e = omega (arith, length-append symbols [], length-append spans [])
paired_more symbols spans n (Some kind) bytes start place e =
    omega (
      arith,
      length-append symbols (symbol_of n kind bytes ∷ []),
      length-append spans (record { kind = kind; start = start; length = length bytes; place = place } ∷ []),
    )

pub few_more : (spans : List Span) (kind : Option Kind) (bytes : List ℕ) (start : ℕ) (place : Place)
    → 0 < length bytes → length (spans ++ new_spans kind start bytes place) ≤ length spans + length bytes
few_more spans None bytes start place some = omega (arith, length-append spans [])
few_more spans (Some kind) bytes start place some =
    omega (arith, length-append spans (record { kind = kind; start = start; length = length bytes; place = place } ∷ []))

pub within_more : (text : List ℕ) (spans : List Span) (kind : Option Kind) (bytes : List ℕ) (start : ℕ) (place : Place)
    → start + length bytes ≤ length text → All (IsWithin text) spans → All (IsWithin text) (spans ++ new_spans kind start bytes place)
within_more text spans None bytes start place fits h = subst (λ l. All (IsWithin text) l) (sym (append-nil spans)) h
within_more text spans (Some kind) bytes start place fits h =
    All-push (IsWithin text) spans (record { kind = kind; start = start; length = length bytes; place = place }) h fits

-- the bytes of a piece stand in the text where the rest began
pub part_of : (text rest bytes after : List ℕ) (start : ℕ) → rest ≡ drop start text → rest ≡ bytes ++ after → bytes ≡ take (length bytes) (drop start text)
part_of text rest bytes after start back e = sym (take_at bytes after (length bytes) refl) ∙ ap (take (length bytes)) (sym e ∙ back)

pub behind_of : (text rest after : List ℕ) (start n : ℕ) → rest ≡ drop start text → after ≡ drop n rest → after ≡ drop (start + n) text
behind_of text rest after start n back e = e ∙ ap (drop n) back ∙ drop-drop n start text

-- ---- what is known of `_`
wires_value : (text : List ℕ) → begins is_letter (drop (prefix_len is_underscore text) text) ≡ false → bare_underscores text ≡ prefix_len is_underscore text
wires_value text e = rw e refl

wires_next : (b : ℕ) (bs : List ℕ) → nat_lt 0 (bare_underscores (b ∷ bs)) ≡ true → bare_underscores (b ∷ bs) ≡ suc (bare_underscores bs)
wires_next b bs e =
    let facts = wires_some (b ∷ bs) e in
    let under = run_head is_underscore b bs facts.1 in
    let counted : prefix_len is_underscore (b ∷ bs) ≡ suc (prefix_len is_underscore bs) = prefix_len-passes is_underscore b bs under in
    let letter : begins is_letter (drop (prefix_len is_underscore bs) bs) ≡ false = ap (λ k. begins is_letter (drop k (b ∷ bs))) (sym counted) ∙ facts.0 in
    wires_value (b ∷ bs) facts.0 ∙ counted ∙ ap suc (sym (wires_value bs letter))

wire_first : (b : ℕ) (bs : List ℕ) (n : ℕ) (kind : Option Kind) → nat_lt 0 (bare_underscores (b ∷ bs)) ≡ true → next_piece (b ∷ bs) ≡ Found n kind → n ≡ 1
wire_first b bs n kind e found =
    let first : next_piece (b ∷ bs) ≡ Found 1 (Some Sign) = rw e refl in
    let same : Found 1 (Some Sign) ≡ Found n kind = sym first ∙ found in
    cc

pub bare_next : (rest after : List ℕ) (n bare : ℕ) (kind : Option Kind)
    → bare ≡ bare_underscores rest → next_piece rest ≡ Found n kind → after ≡ drop n rest → IsBare (bare - 1) after
bare_next [] after n bare kind e found back = λ more. absurd (omega arith)
bare_next (b ∷ bs) after n bare kind e found back = λ more.
    let above : 0 < bare_underscores (b ∷ bs) = omega arith in
    let test = lt-ltb 0 (bare_underscores (b ∷ bs)) above in
    let one = wire_first b bs n kind test found in
    let is : after ≡ bs = back ∙ ap (λ k. drop k (b ∷ bs)) one in
    let count = wires_next b bs test in
    let less : bare - 1 ≡ bare_underscores bs = omega arith in
    less ∙ ap bare_underscores (sym is)

-- ---- one turn of the loop
pub reads_more : (text rest bytes after : List ℕ)
    (place next : Place) (depth inside : ℕ) (symbols grown : List Symbol) (spans more : List Span) (kind : Option Kind) (n start : ℕ)
    → Reads text rest place depth (tokens_in text symbols spans) → Front rest bytes after kind → inside ≡ depth_after depth bytes
    → inside ≤ DEEPEST_NESTING → next ≡ place_after place bytes → length symbols ≡ length spans → n ≡ length spans → rest ≡ drop start text
    → grown ≡ symbols ++ new_symbols n kind bytes → more ≡ spans ++ new_spans kind start bytes place → Reads text after next inside (tokens_in text grown more)
reads_more text rest bytes after place next depth inside symbols grown spans more kind n start r f deep fits moved paired counted back symbols_are spans_are =
    let out = tokens_in text symbols spans in
    let room : depth_after depth bytes ≤ DEEPEST_NESTING = subst (λ d. d ≤ DEEPEST_NESTING) deep fits in
    let read = reads_on text rest bytes after place next depth out kind r f room moved in
    let number : n ≡ length out = counted ∙ sym (length-tokens_in text symbols spans paired) in
    let new = tokens_in_more text bytes symbols spans kind start n place paired number (part_of text rest bytes after start back f.is) in
    let all : tokens_in text grown more ≡ out ++ token_of (length out) place bytes kind =
    ap (λ l. tokens_in text l more) symbols_are ∙ ap (λ l. tokens_in text (symbols ++ new_symbols n kind bytes) l) spans_are ∙ new in
    subst (λ o. Reads text after next inside o) (sym all) (subst (λ d. Reads text after next d (out ++ token_of (length out) place bytes kind)) (sym deep) read)

pub behind_none : (text : List ℕ) → text ≡ drop (length text - length text) text
behind_none text = let none : length text - length text ≡ 0 = omega arith in ap (λ k. drop k text) (sym none)

pub behind_more : (text rest after : List ℕ) (n : ℕ) → rest ≡ drop (length text - length rest) text
    → after ≡ drop n rest → length rest ≤ length text → n ≤ length rest → after ≡ drop (length text - length after) text
behind_more text rest after n back e within fits =
    let short : length after ≡ length rest - n = ap length e ∙ length-drop n rest in
    let same : length text - length rest + n ≡ length text - length after = omega arith in
    behind_of text rest after (length text - length rest) n back e ∙ ap (λ k. drop k text) same
