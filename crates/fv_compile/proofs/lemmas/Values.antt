-- A graph's signals keep their values where it stands among others.
use Rattle.std.proofs.Common.{◌≡◌, ℕ, zero, suc, ◌+◌, ◌<◌, List, [], ◌∷◌, length, take, drop, map, get_or, refl, sym, ap, ◌∙◌, pos}
use Rattle.std.proofs.lemmas.List.{get_or-take, get_or-drop, get_or_default}
use Rattle.std.proofs.Math.Seq.{drop-nil, take-nil}
use Rattle.fv_signal.specs.Words.{apply_of, inputs_of}
use Rattle.fv_signal.specs.Frames.{Frame, Stream, column, frame_at, delayed, carried}
use Rattle.fv_signal.specs.Tables.{read_at, written_at}
use Rattle.fv_analysis.specs.headline.Stands.{node}
use Rattle.fv_signal.specs.declared.signal.Signal.{Signal}
use Rattle.fv_signal.specs.declared.signal.Signal.TheVariants.{Input, Const, Control, Point, Delay, Back, Member, Read, Write}
use Rattle.fv_signal.specs.headline.Value.{Graph, signal_at, value, NamesWithin, IsGraph}
use Rattle.fv_signal.proofs.lemmas.Values.{values_are_given}
use Rattle.fv_signal.proofs.lemmas.Solutions.{solutions_are_values}
use Rattle.fv_compile.specs.declared.graph_copy.Offsets.{Offsets}
use Rattle.fv_compile.specs.Jobs.{NamesBelow, ReadsWithin}
use Rattle.fv_compile.specs.Joined.{part_controls}
use Rattle.fv_compile.specs.headline.Parts.{part_frames}
use Rattle.fv_compile.specs.inner.Copied.{IsImage, IsCopied}

-- ---- the columns of a part

pub part_frame : (first n t : ℕ) (X : List Frame) → frame_at (part_frames first n X) t ≡ take n (drop first (frame_at X t))
part_frame first n t [] = sym (ap (take n) (drop-nil first) ∙ take-nil n)
part_frame first n zero (x ∷ X) = refl
part_frame first n (suc t) (x ∷ X) = part_frame first n t X

pub part_column : (first n i t : ℕ) (X : List Frame) → i < n → column (part_frames first n X) i t ≡ column X (first + i) t
part_column first n i t X l =
    ap (λ x. get_or x i (pos 0)) (part_frame first n t X)
    ∙ get_or-take n (drop first (frame_at X t)) i (pos 0) l ∙ get_or-drop first (frame_at X t) i (pos 0)

-- ---- values

module _ (g f : Graph) (p : ℕ → ℕ) (o : Offsets) (n controls : ℕ) (whole : IsGraph g) (made : IsGraph f) (h : IsCopied g f p o)
    (reads : ReadsWithin n controls g) (X : List Frame) (c : ℕ → Stream) where
  abbrev Y : List Frame
  Y = part_frames o.inputs n X

  abbrev d : ℕ → Stream
  d = part_controls o.controls c

  abbrev v : ℕ → Stream
  v s t = value f (p s) X c t

  at_node : (i t : ℕ) (m : Signal) → i < length f.signals → node f i ≡ m → value f i X c t ≡ signal_at f X c (λ r. value f r X c) m t
  at_node i t m l e = values_are_given f made.ordered X c i (Const (pos 0)) t l ∙ ap (λ k. signal_at f X c (λ r. value f r X c) k t) e

  map_twice : (args : List ℕ) (t : ℕ) → carried (λ r. value f r X c) (map p args) t ≡ carried v args t
  map_twice [] t = refl
  map_twice (a ∷ args) t = ap (λ xs. value f (p a) X c t ∷ xs) (map_twice args t)

  gives : (i : ℕ) → i < length f.signals → (m : Signal) → NamesBelow n controls m → NamesWithin g m → IsImage g f.signals p o m i → (t : ℕ)
      → value f i X c t ≡ signal_at g Y d v m t
  gives i l (Input k) b w e t = at_node i t (Input (o.inputs + k)) l e ∙ sym (part_column o.inputs n k t X b)
  gives i l (Const z) b w e t = at_node i t (Const z) l e
  gives i l (Control k) b w e t = at_node i t (Control (o.controls + k)) l e
  gives i l (Point op args) b w e t = at_node i t (Point op (map p args)) l e ∙ ap (λ xs. apply_of op (take (inputs_of op) xs)) (map_twice args t)
  gives i l (Delay x y max) b w e t = at_node i t (Delay (p x) (p y) max) l e
  gives i l (Back group k) b w e t =
      at_node i t (Back (o.groups + group) k) l e ∙ ap (λ r. delayed (λ u. value f r X c u) t) (h.definitions group k w.0 w.1)
  gives i l (Member group k) b w e t = ap (λ r. value f r X c t) e
  gives i l (Read table r) b w e t = at_node i t (Read (o.tables + table) (p r)) l e ∙ ap (λ T. read_at T (v r t)) (h.tables table w)
  gives i l (Write table a x r) b w e t =
      at_node i t (Write (o.tables + table) (p a) (p x) (p r)) l e ∙ ap (λ T. written_at T (v a) (v x) t (v r t)) (h.tables table w)

  pub keeps : (s t : ℕ) → s < length g.signals → value f (p s) X c t ≡ value g s Y d t
  keeps s t l = solutions_are_values g whole.ordered whole.closed Y d v solves s t l
    where
      solves : (s : ℕ) (m : Signal) (t : ℕ) → s < length g.signals → v s t ≡ signal_at g Y d v (get_or g.signals s m) t
      solves s m t l =
          gives (p s) (h.there s l) (node g s) (reads s (Const (pos 0)) l) (whole.closed s (Const (pos 0)) l) (h.copies s l) t
          ∙ ap (λ k. signal_at g Y d v k t) (get_or_default g.signals s (Const (pos 0)) m l)
