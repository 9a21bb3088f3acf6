-- What a timeless diagram gives is what it answers at the first time.
use Rattle.std.proofs.Common.{◌≡◌, ℕ, ◌+◌, Bool, true, false, ◌&&◌, nat_eq, List, [], ◌∷◌, length, map, take, drop, refl, sym, ap, ap₂, ◌∙◌, subst, pos, Some}
use Rattle.std.proofs.lemmas.Bool.{and_parts, cond-true}
use Rattle.std.proofs.lemmas.List.{length-append}
use Rattle.fv_base.proofs.lemmas.Lists.{length_table}
use Rattle.fv_num.specs.headline.Words.{argument}
use Rattle.fv_num.specs.headline.Frames.{Frame}
use Rattle.fv_diagram.specs.Primitive.{Primitive as Prim}
use Rattle.fv_diagram.specs.Primitive.TheVariants.{Wire, Cut, Mem, Prefix, Delay, Int, Attach, Point, ReadTable, WriteTable}
use Rattle.fv_diagram.specs.headline.Diagram.{Diagram, Primitive, Constant, Control, Slot, Wave, Table, Bind}
use Rattle.fv_diagram.specs.headline.Diagram.{Par, Seq, Split, Merge, Rec, inputs, outputs, primitive_outputs}
use Rattle.fv_diagram.specs.headline.Streams.{Stream, run, last, beside, dealt, merged, primitive_at}
use Rattle.fv_diagram_numbers.specs.headline.Numbers.{is_timeless, silent, number_of}
use Rattle.fv_diagram_numbers.specs.inner.Timeless.{given}

abbrev IsOn : Bool → Type 0
IsOn true = ⊥
IsOn false = Unit {0}

off : {A : Type 0} → false ≡ true → A
off e = absurd (subst IsOn e tt)

pub answers : (d : Diagram) → is_timeless d ≡ true → (c e : ℕ → Stream) (x : Frame) → run d c e (x ∷ []) ≡ given d x ∷ []
answers (Primitive p) h c e x = refl
answers (Constant n) h c e x = refl
answers (Control k) h c e x = off h
answers (Slot k) h c e x = off h
answers (Wave w) h c e x = off h
answers (Table T writes) h c e x = off h
answers (Bind k a) h c e x = off h
answers (Par a b) h c e x =
    let p = and_parts (is_timeless a) (is_timeless b) h in
    ap₂ beside (answers a p.0 c e (take (inputs a) x)) (answers b p.1 c e (drop (inputs a) x))
answers (Seq a b) h c e x =
    let p = and_parts (is_timeless a) (is_timeless b) h in
    ap (run b c e) (answers a p.0 c e x) ∙ answers b p.1 c e (given a x)
answers (Split a b) h c e x =
    let p = and_parts (is_timeless a) (is_timeless b) h in
    ap (λ Y. run b c e (map (dealt (pos 0) (inputs b)) Y)) (answers a p.0 c e x) ∙ answers b p.1 c e (dealt (pos 0) (inputs b) (given a x))
answers (Merge a b) h c e x =
    let p = and_parts (is_timeless a) (is_timeless b) h in
    ap (λ Y. run b c e (map (merged (inputs b)) Y)) (answers a p.0 c e x) ∙ answers b p.1 c e (merged (inputs b) (given a x))
answers (Rec a b) h c e x = off h

primitive_width : (p : Prim) (X : List Frame) → length (primitive_at p X 0) ≡ primitive_outputs p
primitive_width Wire X = refl
primitive_width Cut X = refl
primitive_width Mem X = refl
primitive_width Prefix X = refl
primitive_width Delay X = refl
primitive_width Int X = refl
primitive_width Attach X = refl
primitive_width (Point op) X = refl
primitive_width ReadTable X = refl
primitive_width WriteTable X = refl

pub width : (d : Diagram) (x : Frame) → length (given d x) ≡ outputs d
width (Primitive p) x = primitive_width p (x ∷ [])
width (Constant n) x = refl
width (Control k) x = refl
width (Slot k) x = refl
width (Wave w) x = refl
width (Table T writes) x = refl
width (Bind k a) x = length_table (outputs a) (λ i. pos 0)
width (Par a b) x =
    length-append (given a (take (inputs a) x)) (given b (drop (inputs a) x))
    ∙ ap₂ ◌+◌ (width a (take (inputs a) x)) (width b (drop (inputs a) x))
width (Seq a b) x = width b (given a x)
width (Split a b) x = width b (dealt (pos 0) (inputs b) (given a x))
width (Merge a b) x = width b (merged (inputs b) (given a x))
width (Rec a b) x = length_table (outputs a) (λ i. pos 0)

pub has_number : (d : Diagram) → is_timeless d ≡ true → inputs d ≡ 0 → outputs d ≡ 1 → Some (argument (given d []) 0) ≡ number_of d
has_number d t i o =
    let e : (is_timeless d && (nat_eq (inputs d) 0 && nat_eq (outputs d) 1)) ≡ true =
    ap₂ (λ b n. b && (nat_eq n 0 && nat_eq (outputs d) 1)) t i ∙ ap (λ n. true && (nat_eq 0 0 && nat_eq n 1)) o in
    ap (λ Y. Some (argument (last Y) 0)) (sym (answers d t silent silent [])) ∙ sym (cond-true _ _ _ e)
