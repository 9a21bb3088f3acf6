use Rattle.std.proofs.Common.{List, ◌≡◌, ℕ, ◌+◌, ◌-◌, ◌≤◌, ◌*◌, ◌/◌, ◌^◌, ◌<◌, ◌++◌, length-take-le, Some, None, length, drop, sym, ap, ap₂, subst, ◌∙◌, arith}
use Rattle.std.specs.Prelude.{option_map}
use Rattle.std.specs.Vec.{with_items}
use Rattle.fv_pcm.specs.Coded.{samples_in}
use Rattle.fv_pcm.specs.headline.Sizes.{frame_size}
use Rattle.fv_file_tape.specs.declared.file_tape.FileTape.{FileTape}
use Rattle.fv_file_tape.specs.Tapes.{CannotHear, IsInput, IsTape, Streamed, channels_of, files_of}
use Rattle.fv_file_tape.specs.inner.Tapes.{Misses}
use Rattle.fv_file_tape.proofs.lemmas.Heard.{room_is}
use Rattle.fv_file_tape.proofs.Streams.{heard_on, heard_stops, held_on, nothing_heard, behind_fits, asked_within}
use Rattle.fv_file_tape.proofs.file_tape.FileTapeTape.hear.Given.{Over}
use Rattle.fv_file_tape.proofs.file_tape.FileTapeTape.hear.Goals as goal
use Rattle.fv_file_tape.proofs.file_tape.FileTapeTape.hear.Goals.{After-from-in-None-held}

-- A tape is one still after n frames more were heard.
heard_more : (t : FileTape) (n : ℕ) → IsTape t → n ≤ t.stated - t.done → IsTape (record t { done = t.done + n })
heard_more t n v there =
    let done = v.done in
    record {
      input = v.input;
      stated = v.stated;
      held = v.held;
      done = omega (arith, there, done);
      some = v.some;
      few = v.few;
      bits = v.bits;
      size = v.size;
      ears = v.ears;
      mouth = v.mouth;
    }

-- the bytes that it reads through keep their length
read_through : (t : FileTape) (xs : List ℕ) → IsTape t → IsTape (record t { bytes = with_items t.bytes xs })
read_through t xs v =
    let long : length t.bytes.items ≡ length (with_items t.bytes xs).items = sym t.bytes.ok.0 ∙ (with_items t.bytes xs).ok.0 in
    record {
      input = v.input;
      stated = v.stated;
      held = v.held;
      done = v.done;
      some = v.some;
      few = v.few;
      bits = v.bits;
      size = v.size;
      ears = λ i is. subst (λ n. t.most * i.channels * (i.bits / 8) ≤ n) long (v.ears i is);
      mouth = subst (λ n. t.most * t.head.channels * (t.head.bits / 8) ≤ n) long v.mouth;
    }

-- once n more are done, n fewer are left
left_is : (stated done n : ℕ) → n ≤ stated - done → (stated - (done + n)) + n ≡ stated - done
left_is stated done n there = omega (arith, there)

pub returns-in-None-clause-valid : goal.returns-in-None-clause-valid
returns-in-None-clause-valid g c = heard_more c.args.self.now c.args.frames c.requires.valid c.requires.there

pub returns-in-None-clause-left : goal.returns-in-None-clause-left
returns-in-None-clause-left g c = left_is c.args.self.now.stated c.args.self.now.done c.args.frames c.requires.there

pub returns-in-None-clause-ok : goal.returns-in-None-clause-ok
returns-in-None-clause-ok g c first start h s w =
    let t = c.args.self.now in
    let a = g.D.Desk.state start in
    let b = g.D.Desk.state c.args.desk.now in
    let here = subst (λ f. Streamed f t.done a b h s) (sym w.0) w.1 in
    let on = nothing_heard (files_of t) t.done a b h s here c.in-None.is c.args.frames c.args.to.now c.requires.room in
    (w.0, subst (λ f. Streamed f (t.done + c.args.frames) a b (h ++ c.args.to.now) s) w.0 on)

-- ---- bytes that were read before

pub decode_behind-requires-clause-input : goal.decode_behind-requires-clause-input
decode_behind-requires-clause-input g c = c.requires.valid.input c.in-Some.input c.in-Some.is

pub decode_behind-requires-clause-there : goal.decode_behind-requires-clause-there
decode_behind-requires-clause-there g c =
    let t = c.args.self.now in
    let i = c.in-Some.input in
    let within = asked_within t i c.requires.valid c.in-Some.is c.args.frames (length c.args.to.now) c.requires.there
    (c.requires.room ∙ ap (λ o. c.args.frames * channels_of o) c.in-Some.is) in
    let enough = c.requires.valid.held i c.in-Some.is c.in-Some-held.held c.in-Some-held.is in
    let long = ap length c.deref.ensures.value in
    omega (arith, within, enough, long)

pub returns-in-Some-held-clause-valid : goal.returns-in-Some-held-clause-valid
returns-in-Some-held-clause-valid g c = heard_more c.args.self.now c.args.frames c.requires.valid c.requires.there

pub returns-in-Some-held-clause-left : goal.returns-in-Some-held-clause-left
returns-in-Some-held-clause-left g c = left_is c.args.self.now.stated c.args.self.now.done c.args.frames c.requires.there

pub returns-in-Some-held-clause-ok : goal.returns-in-Some-held-clause-ok
returns-in-Some-held-clause-ok g c first start h s w =
    let t = c.args.self.now in
    let i = c.in-Some.input in
    let a = g.D.Desk.state start in
    let b = g.D.Desk.state c.args.desk.now in
    let here = subst (λ f. Streamed f t.done a b h s) (sym w.0) w.1 in
    let held = c.in-Some-held.held.items in
    let kept : (files_of t).held ≡ Some held = ap (option_map (λ v. v.items)) c.in-Some-held.is in
    let long : length c.decode_behind.new.to ≡ c.args.frames * i.channels =
    c.decode_behind.auto.to ∙ c.requires.room ∙ ap (λ o. c.args.frames * channels_of o) c.in-Some.is in
    let within = asked_within t i c.requires.valid c.in-Some.is c.args.frames (length c.decode_behind.new.to) c.requires.there long in
    let enough = c.requires.valid.held i c.in-Some.is c.in-Some-held.held c.in-Some-held.is in
    let on = held_on (files_of t) t.done i held a b h s c.in-Some.is kept here c.args.frames c.decode_behind.new.to long (omega (arith, within, enough))
    (c.decode_behind.ensures
    ∙ ap (λ xs. samples_in i.coding i.bits (length c.decode_behind.new.to) (drop (t.done * frame_size i.channels i.bits) xs)) c.deref.ensures.value) in
    (w.0, subst (λ f. Streamed f (t.done + c.args.frames) a b (h ++ c.decode_behind.new.to) s) w.0 on)

-- ---- bytes that are left to read

-- the place of the next frames
module _ (g : Over) (c : After-from-in-None-held g) where
  at : c.from.result * c.from-in-None-held.result ≡ c.args.self.now.done * frame_size c.in-Some.input.channels c.in-Some.input.bits
  at = ap₂ (λ (x y : ℕ). x * y) c.from.ensures (c.from-in-None-held.ensures ∙ c.frame_size.ensures.size)

  low : c.in-Some.input.place + c.from.result * c.from-in-None-held.result < 2 ^ 63
  low =
      let i = c.in-Some.input in
      let r : IsInput i = c.requires.valid.input i c.in-Some.is in
      let fits = behind_fits c.args.self.now i c.requires.valid c.in-Some.is in
      let place = r.low in
      let is = at in
      omega (arith, fits, place, is)

pub overflow_add-place : goal.overflow_add-place
overflow_add-place g c = let k = low g (goal.at.overflow_add-place g c).After-from-in-None-held in omega (arith, k)

pub read_samples-requires-clause-high : goal.read_samples-requires-clause-high
read_samples-requires-clause-high g c = low g (goal.at.read_samples-requires-clause-high g c).After-from-in-None-held

pub overflow_mul-count : goal.overflow_mul-count
overflow_mul-count g c =
    let t = c.args.self.now in
    let i = c.in-Some.input in
    let fits = room_is c.args.frames t.most i.channels (i.bits / 8) (length c.args.to.now) (length t.bytes.items) c.requires.few
    (c.requires.room ∙ ap (λ o. c.args.frames * channels_of o) c.in-Some.is) (c.requires.valid.ears i c.in-Some.is) in
    omega (arith, fits)

pub slice_bounds-read_samples-end : goal.slice_bounds-read_samples-end
slice_bounds-read_samples-end g c =
    let t = c.args.self.now in
    let i = c.in-Some.input in
    let long = ap length c.deref_mut.ensures.value in
    let fits = room_is c.args.frames t.most i.channels (i.bits / 8) (length c.args.to.now) (length t.bytes.items) c.requires.few
    (c.requires.room ∙ ap (λ o. c.args.frames * channels_of o) c.in-Some.is) (c.requires.valid.ears i c.in-Some.is) in
    sym (length-take-le (length c.args.to.now * (i.bits / 8)) c.deref_mut.result.now (omega (arith, fits, long)))

pub read_samples-requires-clause-room : goal.read_samples-requires-clause-room
read_samples-requires-clause-room g c =
    let t = c.args.self.now in
    let i = c.in-Some.input in
    let long = ap length c.deref_mut.ensures.value in
    let fits = room_is c.args.frames t.most i.channels (i.bits / 8) (length c.args.to.now) (length t.bytes.items) c.requires.few
    (c.requires.room ∙ ap (λ o. c.args.frames * channels_of o) c.in-Some.is) (c.requires.valid.ears i c.in-Some.is) in
    length-take-le (length c.args.to.now * (i.bits / 8)) c.deref_mut.result.now (omega (arith, fits, long))

pub returns-in-Ok-clause-valid : goal.returns-in-Ok-clause-valid
returns-in-Ok-clause-valid g c =
    let t = c.args.self.now in
    heard_more (record t { bytes = with_items t.bytes _ }) c.args.frames (read_through t _ c.requires.valid) c.requires.there

pub returns-in-Err-clause-valid : goal.returns-in-Err-clause-valid
returns-in-Err-clause-valid g c = read_through c.args.self.now _ c.requires.valid

pub returns-in-Ok-clause-left : goal.returns-in-Ok-clause-left
returns-in-Ok-clause-left g c = left_is c.args.self.now.stated c.args.self.now.done c.args.frames c.requires.there

pub returns-in-Ok-clause-ok : goal.returns-in-Ok-clause-ok
returns-in-Ok-clause-ok g c first start h s w =
    let t = c.args.self.now in
    let i = c.in-Some.input in
    let a = g.D.Desk.state start in
    let b = g.D.Desk.state c.args.desk.now in
    let d = g.D.Desk.state c.read_samples.new.desk in
    let to = c.read_samples.new.to in
    let here = subst (λ f. Streamed f t.done a b h s) (sym w.0) w.1 in
    let fresh : (files_of t).held ≡ None = ap (option_map (λ v. v.items)) c.in-None-held.is in
    let long : length to ≡ c.args.frames * i.channels =
    c.read_samples.auto.to ∙ c.requires.room ∙ ap (λ o. c.args.frames * channels_of o) c.in-Some.is in
    let on = heard_on (files_of t) t.done i c.in-Some.is fresh a b d h s here c.args.frames to long c.in-Ok.ensures.ok in
    (w.0, subst (λ f. Streamed f (t.done + c.args.frames) a d (h ++ to) s) w.0 on)

pub returns-in-Err-clause-err : goal.returns-in-Err-clause-err
returns-in-Err-clause-err g c first start h s w =
    let t = c.args.self.now in
    let i = c.in-Some.input in
    let a = g.D.Desk.state start in
    let b = g.D.Desk.state c.args.desk.now in
    let d = g.D.Desk.state c.read_samples.new.desk in
    let here = subst (λ f. Streamed f t.done a b h s) (sym w.0) w.1 in
    let fresh : (files_of t).held ≡ None = ap (option_map (λ v. v.items)) c.in-None-held.is in
    let long : length c.read_samples.new.to ≡ c.args.frames * i.channels =
    c.read_samples.auto.to ∙ c.requires.room ∙ ap (λ o. c.args.frames * channels_of o) c.in-Some.is in
    let place = i.place + c.from.result * c.from-in-None-held.result in
    let misses = subst (λ n. Misses (n * (i.bits / 8)) place b d c.in-Err.stop) long c.in-Err.ensures.err in
    let at_place : place ≡ i.place + t.done * frame_size i.channels i.bits =
    ap (λ n. i.place + n) (at g (goal.at.returns-in-Err-clause-err g c).After-from-in-None-held) in
    let stops = heard_stops (files_of t) t.done i c.in-Some.is fresh a b d h s here c.args.frames place c.in-Err.stop at_place misses in (
      i,
      ap (λ f. f.input) (sym w.0) ∙ c.in-Some.is,
      ap (λ f. f.held) (sym w.0) ∙ fresh,
      subst (λ f. CannotHear f i a d h s c.args.frames c.in-Err.stop) w.0 stops,
    )
