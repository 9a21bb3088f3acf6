-- How a run from an input to an output ends.
use Rattle.std.proofs.Common.{◌≡◌, inl, inr, ⊎_elim, ℕ, ◌+◌, ◌-◌, ◌*◌, ◌/◌, ◌<◌, ◌≤◌, List, [], ◌∷◌, ◌++◌, length, take, drop, ℤ, Option, Some, None}
use Rattle.std.proofs.Common.{refl, sym, ap, subst, ◌∙◌}
use Rattle.std.proofs.Common.{arith, length-append, append_assoc, take_all, take-append-drop, length-take}
use Rattle.std.specs.Prelude.{IsTrue, flat_map, min, nat_lt, Bool, true, false, if◌then◌else◌}
use Rattle.std.specs.Option.{ForSome}
use Rattle.std.proofs.Math.Nat.{mul_assoc, add-mul, div-mul-le_self}
use Rattle.std.proofs.lemmas.Bool.{cases_lt}
use Rattle.std.proofs.lemmas.List.{append-nil}
use Rattle.std.proofs.lemmas.Grind.{flat_map-append}
use Rattle.fv_base.proofs.lemmas.Lists.{length_table, prefix_trans}
use Rattle.fv_base.specs.headline.Lists.{IsPrefixOf}
use Rattle.fv_base.specs.declared.role.Role.TheVariants.{Input, Output}
use Rattle.fv_diagram.specs.Frames.{Frame, Stream, rows}
use Rattle.fv_outside.specs.headline.Desk.{DeskState}
use Rattle.fv_file_tape.specs.Acts.{Act, Beginning, Hearing, Saying}
use Rattle.fv_pcm.specs.declared.coding.Coding.{Coding}
use Rattle.fv_pcm.specs.headline.Coded.{sample_bytes, frame_bytes}
use Rattle.fv_pcm.specs.headline.Sizes.{frame_size, stated_frames, present, whole_bytes}
use Rattle.fv_pcm.specs.Sizes.{SamplesFollow}
use Rattle.fv_diagram.specs.headline.Diagram.{Diagram, inputs}
use Rattle.fv_diagram.specs.headline.Streams.{run}
use Rattle.fv_diagram.specs.headline.Samples.{answer_on, joined, no_slots}
use Rattle.fv_diagram.specs.Laws.{AnswersPrefixes}
use Rattle.fv_control.specs.declared.script.Change.{Change}
use Rattle.fv_engine_render.specs.headline.Blocks.{AreBlocks, block_at, to_change}
use Rattle.fv_engine_render.specs.Stops.{IsAct}
use Rattle.fv_engine_render.specs.declared.blocks.RunSizes.{RunSizes}
use Rattle.fv_file_tape.specs.Tapes.{Files, IsInput, AreHeard, Streamed, CannotBegin, CannotHear, CannotGoOn, CannotSay, StopsIn}
use Rattle.fv_file_tape.specs.headline.Tapes.{layout_of}
use Rattle.fv_file_tape.specs.Tapes.{channels_of, head_of, front}
use Rattle.fv_file_tape.specs.declared.incoming.Incoming.{Incoming}
use Rattle.fv_file_tape.specs.declared.file_tape.OutputHead.{OutputHead}
use Rattle.fv_file_tape.specs.declared.file_tape.Stop.{Stop}
use Rattle.fv_file_tape.specs.declared.file_tape.Stop.TheVariants as stop
use Rattle.fv_file_tape.proofs.lemmas.Heard.{rows_fit}
use Rattle.fv_engine_render.specs.Files.{AreTakenOf, HasPlayed, StopsAt, answered, answered_to, bare, frames_at, frames_of, output_of}
use Rattle.fv_engine_render.proofs.Heard.{frames_count, frames_few, frames_taken, heard_frames}

-- ---- numbers

-- a block is within the frames
change_few : (cs : List Change) (f most : ℕ) → to_change cs f most ≤ most
change_few [] f most = omega arith
change_few (c ∷ cs) f most = let more = change_few cs f (if nat_lt f c.frame then min most (c.frame - f) else most) in
    let few : (if nat_lt f c.frame then min most (c.frame - f) else most) ≤ most = by_test (nat_lt f c.frame) (c.frame - f) most in
    omega (arith, more, few)
  where
    by_test : (b : Bool) (k most : ℕ) → (if b then min most k else most) ≤ most
    by_test true k most = omega arith
    by_test false k most = omega arith

blocks_few : (block total : ℕ) (changes : List Change) (f g : ℕ) (ns : List ℕ) → f ≤ total → AreBlocks block total changes f g ns → g ≤ total
blocks_few block total changes f g [] few h = omega (arith, h, few)
blocks_few block total changes f g (n ∷ ns) few h =
    let is = h.1 in
    let less = change_few changes f (min block (total - f)) in
    blocks_few block total changes (f + n) g ns (omega (arith, is, less, few)) h.2

-- ---- the bytes of an answer

-- the samples of frames, one frame after another
samples_joined : (c : Coding) (bits : ℕ) (Y : List Frame) → flat_map (sample_bytes c bits) (joined Y) ≡ flat_map (frame_bytes c bits) Y
samples_joined c bits [] = refl
samples_joined c bits (y ∷ Y) = flat_map-append (sample_bytes c bits) y (joined Y) ∙ ap (λ w. frame_bytes c bits y ++ w) (samples_joined c bits Y)

-- what is answered on the first frames is a part of what is answered on all, from its front
output_part : (head : OutputHead) (d : Diagram) (c : ℕ → Stream) (f : ℕ) (X : List Frame) → AnswersPrefixes d
    → IsPrefixOf (output_of head d c (take f X)) (output_of head d c X)
output_part head d c f X law =
    let whole = run d c no_slots X in
    let n = length (take f X) in
    let bytes : List Frame → List ℕ = λ Y. flat_map (frame_bytes head.coding head.bits) Y in
    let first : run d c no_slots (take f X) ≡ take n whole =
    sym (law c no_slots (take f X) (drop f X)) ∙ ap (λ (Y : List Frame). take n (run d c no_slots Y)) (take-append-drop f X) in
    let split : whole ≡ run d c no_slots (take f X) ++ drop n whole =
    sym (take-append-drop n whole) ∙ ap (λ (Y : List Frame). Y ++ drop n whole) (sym first) in
    record {
      rest = bytes (drop n whole);
      is = ap (λ (Y : List Frame). head_of head ++ bytes Y) split
          ∙ ap (λ w. head_of head ++ w) (flat_map-append (frame_bytes head.coding head.bits) (run d c no_slots (take f X)) (drop n whole))
          ∙ sym (append_assoc (head_of head) (bytes (run d c no_slots (take f X))) (bytes (drop n whole)));
    }

part_long : {xs ys : List ℕ} → IsPrefixOf xs ys → length xs ≤ length ys
part_long {xs} p = let e = ap length p.is ∙ length-append xs p.rest in omega (arith, e)

part_is : {xs ys zs : List ℕ} → xs ≡ ys → IsPrefixOf ys zs → IsPrefixOf xs zs
part_is e p = record { rest = p.rest; is = p.is ∙ ap (λ w. w ++ p.rest) (sym e) }

-- ---- what was heard of an input, and is answered

-- the input of a run fits its diagram, and its numbers fit together
pub record Plays (d : Diagram) (t : Files) : Type 0 where
  pub follow : SamplesFollow
  pub prefixes : AnswersPrefixes d
  pub ears : channels_of t.input ≡ inputs d
  pub input : ForSome t.input IsInput
  pub stated : ForSome t.input (λ i. t.stated ≡ stated_frames (layout_of i))

module _ {d : Diagram} {t : Files} (p : Plays d t) (c : ℕ → Stream) (a : DeskState) where
  abbrev X : List Frame
  X = frames_of t (a.left Input)

  -- f frames were heard
  record Hears (f : ℕ) (h : List ℤ) : Type 0 where
    after : List ℕ
    heard : AreHeard t.input t.held h (a.left Input) after
    long : length h ≡ f * channels_of t.input
    few : f ≤ t.stated

  rows_are : (f : ℕ) (h : List ℤ) → Hears f h → rows (channels_of t.input) f h ≡ take f X
  rows_are f h k = heard_frames p.follow t.input t.held t.stated f h (a.left Input) k.after p.input p.stated k.heard k.long k.few

  -- they are there
  there : (f : ℕ) (h : List ℤ) → Hears f h → f ≤ length X
  there f h k =
      let same = ap length (rows_are f h k) in
      let got = length-take f X in
      let all : length (rows (channels_of t.input) f h) ≡ f = length_table _ _ in
      omega (arith, same, got, all)

  -- and their answer is said
  front_is : (f : ℕ) (h : List ℤ) → Hears f h → front t (answer_on d c f h) ≡ output_of t.head d c (take f X)
  front_is f h k =
      let rows_d : rows (inputs d) f h ≡ take f X = ap (λ n. rows n f h) (sym p.ears) ∙ rows_are f h k in
      ap (λ w. head_of t.head ++ w)
      (samples_joined t.head.coding t.head.bits (run d c no_slots (rows (inputs d) f h))
      ∙ ap (λ (Y : List Frame). flat_map (frame_bytes t.head.coding t.head.bits) (run d c no_slots Y)) rows_d)

  part : (f : ℕ) (h s : List ℤ) → Hears f h → s ≡ answer_on d c f h → IsPrefixOf (front t s) (answered d c t a)
  part f h s k e = part_is (ap (front t) e ∙ front_is f h k) (output_part t.head d c f X p.prefixes)

  -- whatever the frames, what is answered on them begins with the head
  head_part : (Y : List Frame) → IsPrefixOf (front t []) (output_of t.head d c Y)
  head_part Y =
      let bytes : List ℕ = flat_map (frame_bytes t.head.coding t.head.bits) (run d c no_slots Y) in
      record { rest = bytes; is = ap (λ w. w ++ bytes) (sym (append-nil (head_of t.head))) }

  -- ---- all was played

  pub played : (b : DeskState) (done : ℕ) (h : List ℤ) → Streamed t done a b h (answer_on d c t.stated h) → length h ≡ t.stated * inputs d
      → HasPlayed d c t a b
  played b done h w long =
      let wide : length h ≡ t.stated * channels_of t.input = long ∙ ap (λ n. t.stated * n) (sym p.ears) in
      let heard : IsTrue a.tells → Hears t.stated h = λ x. record { after = b.left Input; heard = w.heard x; long = wide; few = omega arith } in
      let all : IsTrue a.tells → length X ≡ t.stated = λ x.
      let few = frames_few t.input t.held t.stated (a.left Input) p.input p.stated in
      let some = there t.stated h (heard x) in
      omega (arith, few, some) in
      record {
        streams = w.streams;
        begun = w.begun;
        faults = w.faults;
        there = all;
        taken = λ x. frames_taken t.input t.held t.stated h (a.left Input) (b.left Input) (w.heard x) wide;
        written = λ x.
            let whole : take t.stated X ≡ X = let e = all x in take_all t.stated X (omega (arith, e)) in
            w.said x ∙ front_is t.stated h (heard x) ∙ ap (output_of t.head d c) whole;
      }

  -- ---- it stopped

  -- what is there is not enough for the next block
  record Short (i : Incoming) (f n : ℕ) (h : List ℤ) : Type 0 where
    is : t.input ≡ Some i
    fresh : t.held ≡ None
    range : IsInput i
    long : length h ≡ f * i.channels
    less : length (a.left Input) < length h * (i.bits / 8) + n * frame_size i.channels i.bits

  short : (i : Incoming) (f n : ℕ) (h : List ℤ) → Short i f n h → length X < f + n
  short i f n h k =
      let frame = frame_size i.channels i.bits in
      let left = a.left Input in
      let at : X ≡ frames_at (Some i) None t.stated left =
      ap (λ o. frames_at o t.held t.stated left) k.is ∙ ap (λ o. frames_at (Some i) o t.stated left) k.fresh in
      let count : length X ≡ length (present (bare i) left) / frame = ap length at ∙ frames_count i left in
      let whole = div-mul-le_self (length (present (bare i) left)) frame in
      let got = length-take (whole_bytes (bare i)) left in
      let flat : length h * (i.bits / 8) ≡ f * frame = ap (λ m. m * (i.bits / 8)) k.long ∙ mul_assoc f i.channels (i.bits / 8) in
      let sum : (f + n) * frame ≡ f * frame + n * frame = add-mul f n frame in
      let less = k.less in
      let few : length X * frame ≤ length left = subst (λ m. m * frame ≤ length left) (sym count) (omega (arith, whole, got)) in
      fewer (length X) (f + n) frame (omega (arith, few, less, flat, sum))
    where
      fewer : (x y w : ℕ) → x * w < y * w → x < y
      fewer x y w l = ⊎_elim (λ less. less) (λ (more : y ≤ x). absurd (let e = rows_fit y x w more in omega (arith, e, l))) (cases_lt x y)

  -- nothing can be said of a whole answer where a part of it cannot
  cannot_part : {xs : List ℕ} {b : DeskState} → (IsTrue a.tells → IsPrefixOf xs (answered d c t a)) → CannotSay xs a b → CannotSay (answered d c t a) a b
  cannot_part part k = record {
    fault = k.fault;
    others = k.others;
    unsure = λ x safe fits. let long = part_long (part x) in k.unsure x safe (omega (arith, long, fits));
  }

  module _ (changes : List Change) (s : RunSizes) (same : s.frames ≡ t.stated) (b : DeskState) where
    -- the blocks up to frame f were heard, and this is their answer
    pub record HasRun (f : ℕ) (h : List ℤ) : Type 0 where
      pub lengths : List ℕ
      pub cut : AreBlocks s.block s.frames changes 0 f lengths
      pub long : length h ≡ f * inputs d

    wide : (f : ℕ) (h : List ℤ) → HasRun f h → length h ≡ f * channels_of t.input
    wide f h r = r.long ∙ ap (λ n. f * n) (sym p.ears)

    few_of : (f : ℕ) (h : List ℤ) → HasRun f h → f ≤ t.stated
    few_of f h r = let e = same in let k = blocks_few s.block s.frames changes 0 f r.lengths (omega arith) r.cut in omega (arith, e, k)

    hears : (f : ℕ) (h : List ℤ) (after : List ℕ) → HasRun f h → AreHeard t.input t.held h (a.left Input) after → Hears f h
    hears f h after r heard = record { after = after; heard = heard; long = wide f h r; few = few_of f h r }

    begin_stops : (f : ℕ) → f ≡ 0 → (e : Stop) → e ≡ stop.Write → CannotBegin t a b → StopsAt d c changes s t f a b e
    begin_stops f none e is k =
        let head : IsPrefixOf (front t []) (answered d c t a) = head_part X in
        rw is (record {
          streams = k.streams;
          few = omega (arith, none);
          output = ⊎_elim (λ o. inl (o, none)) (λ o. inr (o.0, λ x. prefix_trans _ _ _ (o.1 x) head)) k.output;
          cause = (
            cannot_part (λ x. head) k.cannot,
            λ x. none_taken t.input t.held (k.left x),
            ⊎_elim inl (λ o. inr (λ x. prefix_trans _ _ _ (o.1 x) (head_part (take f X)))) k.output,
          );
        })
      where
        none_taken : (o : Option Incoming) (held : Option (List ℕ)) → b.left Input ≡ a.left Input → AreTakenOf o held f (a.left Input) (b.left Input)
        none_taken None held left = left
        none_taken (Some i) None left =
            let z : 0 ≡ f * frame_size i.channels i.bits = sym (ap (λ n. n * frame_size i.channels i.bits) none ∙ omega arith) in
            left ∙ ap (λ n. drop n (a.left Input)) z
        none_taken (Some i) (Some bytes) left = left

    hear_stops : (f n : ℕ) (h w : List ℤ) (e : Stop) (i : Incoming) → HasRun f h → (f < s.frames) × (n ≡ block_at s.block s.frames changes f)
        × (w ≡ answer_on d c f h) → t.input ≡ Some i → t.held ≡ None → CannotHear t i a b h w n e → StopsAt d c changes s t f a b e
    hear_stops f n h w e i r at is fresh k =
        let range : IsInput i = p.input i is in
        let heard : IsTrue a.tells → Hears f h = λ x. hears f h _ r
        (subst (λ o. AreHeard o t.held h (a.left Input) (drop (length h * (i.bits / 8)) (a.left Input))) (sym is)
        (subst (λ o. AreHeard (Some i) o h (a.left Input) (drop (length h * (i.bits / 8)) (a.left Input))) (sym fresh) (k.heard x))) in
        let within : f < t.stated = let ahead = at.0 in omega (arith, ahead, same) in
        let answer : IsTrue a.tells → b.written Output ≡ answered_to d c t f a = λ x. k.said x ∙ ap (front t) at.2 ∙ front_is f h (heard x) in
        record {
          streams = k.streams;
          few = few_of f h r;
          output = inr (k.begun, λ x. part_is (k.said x) (part f h w (heard x) at.2));
          cause = ⊎_elim
              (λ q. rw q.0 (k.begun, q.1, q.2, rw is refl, fresh, λ x. (within, answer x)))
              (λ q. rw q.1 (
                k.begun,
                q.2,
                i,
                is,
                fresh,
                λ x.
                    let y = q.3 x in
                    let next : length X < f + n = short i f n h (record {
                      is = is;
                      fresh = fresh;
                      range = range;
                      long = wide f h r ∙ ap (λ o. f * channels_of o) is;
                      less = y.0;
                    }) in
                    record {
                      cut = record {
                        lengths = r.lengths;
                        cut = r.cut;
                        within = there f h (heard x);
                        next = subst (λ m. length X < f + m) at.1 next;
                      };
                      short =
                          let behind = at.0 in
                          let size = at.1 in
                          let block = change_few changes f (min s.block (s.frames - f)) in
                          omega (arith, next, behind, size, block);
                      place_is = y.2;
                      taken = y.1;
                      written = answer x;
                    },
              )) k.cause;
        }

    say_stops : (f : ℕ) (h w more : List ℤ) (e : Stop) → HasRun f h → w ++ more ≡ answer_on d c f h → e ≡ stop.Write → CannotGoOn t a b h w more
        → StopsAt d c changes s t f a b e
    say_stops f h w more e r all is k =
        let heard : IsTrue a.tells → Hears f h = λ x. hears f h _ r (k.heard x) in
        let whole : IsTrue a.tells → IsPrefixOf (front t (w ++ more)) (answered d c t a) = λ x. part f h (w ++ more) (heard x) all in
        let said : IsTrue a.tells → IsPrefixOf (b.written Output) (front t (w ++ more)) = λ x.
        let q = k.said x in part_is q.2 (said_part w more q.0 q.1) in
        rw is (record {
          streams = k.streams;
          few = few_of f h r;
          output = inr (k.begun, λ x. prefix_trans _ _ _ (said x) (whole x));
          cause = (
            cannot_part whole k.cannot,
            λ x. frames_taken t.input t.held f h (a.left Input) (b.left Input) (k.heard x) (wide f h r),
            inr (λ x. subst (IsPrefixOf (b.written Output)) (ap (front t) all ∙ front_is f h (heard x)) (said x)),
          );
        })
      where
        -- a part of what is said after w
        said_part : (w more : List ℤ) (q : List ℕ) → IsPrefixOf q (flat_map (sample_bytes t.head.coding t.head.bits) more)
            → IsPrefixOf (front t w ++ q) (front t (w ++ more))
        said_part w more q g =
            let bytes : List ℤ → List ℕ = λ xs. flat_map (sample_bytes t.head.coding t.head.bits) xs in
            record {
              rest = g.rest;
              is = ap (λ v. head_of t.head ++ v) (flat_map-append (sample_bytes t.head.coding t.head.bits) w more ∙ ap (λ v. bytes w ++ v) g.is)
                  ∙ sym (append_assoc (head_of t.head) (bytes w) (q ++ g.rest)) ∙ sym (append_assoc (front t w) q g.rest);
            }

    pub stopped : (f : ℕ) (h w : List ℤ) (act : Act) (e : Stop) → HasRun f h → IsAct s.block s.frames changes f w (answer_on d c f h) act
        → StopsIn t a b h w act e → StopsAt d c changes s t f a b e
    stopped f h w Beginning e r is k = begin_stops f is.0 e k.0 k.1
    stopped f h w (Hearing n) e r is k = hear_stops f n h w e k.0 r is k.1 k.2 k.3
    stopped f h w (Saying more) e r is k = say_stops f h w more e r is k.0 k.1
