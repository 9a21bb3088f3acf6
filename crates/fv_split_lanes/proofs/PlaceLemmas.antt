-- The passes together place the signals.
use Rattle.std.proofs.Common.{◌≡◌, inl, inr, ℕ, zero, suc, ◌<◌, List, [], ◌∷◌, length, refl, sym, ap, ◌∙◌, subst, arith, Bool, true, false, if◌then◌else◌, All}
use Rattle.std.specs.Prelude.{Vec}
use Rattle.std.specs.declared.alloc.Global.{Global}
use Rattle.std.proofs.lemmas.List.Elements.{All-from_get_or}
use Rattle.fv_signal.specs.declared.rate.Rate.{Rate}
use Rattle.fv_signal.specs.headline.Value.{Graph, IsGraph}
use Rattle.fv_signal.specs.headline.Rates.{rates}
use Rattle.fv_components.specs.headline.Reach.{at}
use Rattle.fv_components.specs.Reach.{next_of, AreLinks, AreComponents}
use Rattle.fv_components.proofs.lemmas.Walks.{reaches_trans}
use Rattle.fv_split_plan.specs.headline.Separated.{AsShared, links_of}
use Rattle.fv_split_lanes.specs.declared.lanes.Lanes.{Lanes}
use Rattle.fv_split_lanes.specs.declared.lanes.Numbering.{Numbering}
use Rattle.fv_split_lanes.specs.declared.reader.Reader.{Reader}
use Rattle.fv_split_lanes.specs.declared.reader.Reader.TheVariants.{Many}
use Rattle.fv_split_lanes.specs.inner.Rows.{reads_of, AreRows}
use Rattle.fv_split_lanes.specs.inner.Homes.{bit_at, AreLower, AreSingle, AreLaneless, AreHomes}
use Rattle.fv_split_lanes.specs.inner.Ranks.{AreRanks, AreLoops}
use Rattle.fv_split_lanes.specs.inner.Readers.{reader_at, IsReader, ReadsBelow, AreReaders}
use Rattle.fv_split_lanes.specs.inner.Marked.{AreMarked}
use Rattle.fv_split_lanes.specs.inner.Numbered.{AreNumbered, IsInnerBy, AreInner}
use Rattle.fv_split_lanes.specs.Placed.{IsInner, LanesArePlaced, LoopsArePlaced, HomesArePlaced, ArePlaced}
use Rattle.fv_split_lanes.proofs.lemmas.RowLemmas.{rows_are, links_none, reads_none, leads_read, read_lower, links_within, reach_within, all_reach}
use Rattle.fv_split_lanes.proofs.ReaderLemmas.{one_reader}
use Rattle.fv_split_lanes.proofs.RankLemmas.{are_loops}

-- ---- what the passes are given

pub read_rows : (g : Graph) (rows : List (List ℕ)) → AreRows (reads_of g) (length g.signals) rows → next_of rows ≡ reads_of g
read_rows g rows h = rows_are (reads_of g) (length g.signals) rows h (reads_none g)

pub link_rows : (g : Graph) (rows : List (List ℕ)) → AreRows (links_of g) (length g.signals) rows → next_of rows ≡ links_of g
link_rows g rows h = rows_are (links_of g) (length g.signals) rows h (links_none g)

pub read_links : (g : Graph) → IsGraph g → AreLinks (reads_of g) (length g.signals)
read_links g h a b l step = let k = read_lower g h.ordered a b ((leads_read g a b).0 step) in omega arith

-- so it is with their rows
pub row_links : (g : Graph) → IsGraph g → (rows : List (List ℕ)) → AreRows (reads_of g) (length g.signals) rows → AreLinks (next_of rows) (length rows)
row_links g h rows r = subst (λ f. AreLinks f (length rows)) (sym (read_rows g rows r)) (subst (AreLinks (reads_of g)) (sym r.long) (read_links g h))

pub link_row_links : (g : Graph) → IsGraph g → (rows : List (List ℕ)) → AreRows (links_of g) (length g.signals) rows → AreLinks (next_of rows) (length rows)
link_row_links g h rows r = subst (λ f. AreLinks f (length rows)) (sym (link_rows g rows r)) (subst (AreLinks (links_of g)) (sym r.long) (links_within g h))

pub row_readers : (g : Graph) (rows : List (List ℕ)) (readers : List Reader) → AreRows (reads_of g) (length g.signals) rows →
    AreReaders (next_of rows) (length rows) (length rows) readers → AreReaders (reads_of g) (length g.signals) (length g.signals) readers
row_readers g rows readers r h = subst (λ f. AreReaders f (length g.signals) (length g.signals) readers) (read_rows g rows r) (subst (λ n. AreReaders
    (next_of rows) n n readers) r.long h)

pub row_components : (g : Graph) (rows : List (List ℕ)) (numbers : List ℕ) → AreRows (links_of g) (length g.signals) rows →
    AreComponents (next_of rows) (length rows) numbers →
    AreComponents (links_of g) (length g.signals) numbers
row_components g rows numbers r h = subst (λ f. AreComponents f (length g.signals) numbers) (link_rows g rows r) (subst (λ n. AreComponents
    (next_of rows) n numbers) r.long h)

pub are_lower : (g : Graph) → IsGraph g → AreLower (reads_of g)
are_lower g h s r step = read_lower g h.ordered s r ((leads_read g s r).0 step)

-- an inner signal is read by one signal at most
pub are_single : (g : Graph) → IsGraph g → (readers : List Reader) (marks inner : List Bool) →
    AreReaders (reads_of g) (length g.signals) (length g.signals) readers →
    AreMarked g marks → AreInner g (rates g.signals) marks (length g.signals) inner → AreSingle (reads_of g) (bit_at inner)
are_single g h readers marks inner are m i q s r e lq ls =
    one_reader (reads_of g) (length g.signals) readers r q s are (λ a b step. ((leads_read g a b).0 step).within) k.0 few lq ls
  where
    k : (r < length g.signals) × IsInnerBy g (rates g.signals) marks r
    k = (i.each r).0 e

    few : reader_at readers r ≡ Many → ⊥
    few z =
        let w = subst (IsReader (ReadsBelow (reads_of g) (length g.signals) r)) z (are.each r k.0) in
        let y = (m.each r).1 (AsShared w.0 w.1 k.1.computed k.1.sampled w.2 ((leads_read g w.0 r).0 w.3.leads) ((leads_read g w.1 r).0 w.4.leads)) in
        let x = sym k.1.alone ∙ y in cc

pub are_laneless : (g : Graph) (often : List Rate) (marks inner : List Bool) (numbers ranks : List ℕ) (p : Numbering) → length marks ≡ length g.signals →
    AreNumbered marks numbers ranks p → AreInner g often marks (length g.signals) inner → AreLaneless (bit_at inner) p.places.items (at ranks (length marks))
are_laneless g often marks inner numbers ranks p long n i s e =
    let k = (i.each s).0 e in
    n.places s (omega (arith, k.0, long)) ∙ ap (λ b. if b then at ranks (at numbers s) else at ranks (length marks)) k.1.alone

pub numbers_within : (numbers : List ℕ) (n : ℕ) → length numbers ≡ n → ((a : ℕ) → a < n → at numbers a < n) → All (λ c. c < n) numbers
numbers_within numbers n long h = All-from_get_or (λ c. c < n) numbers 0 (λ i l. h i (omega (arith, long)))

-- ---- the places

module _ (g : Graph) (graph : IsGraph g) (marks inner : List Bool) (numbers ranks : List ℕ) (homes : Vec ℕ Global) (p : Numbering) (m : AreMarked g marks)
    (c : AreComponents (links_of g) (length g.signals) numbers) (r : AreRanks numbers marks ranks) (n : AreNumbered marks numbers ranks p)
    (i : AreInner g (rates g.signals) marks (length g.signals) inner)
    (h : AreHomes (reads_of g) (bit_at inner) p.places.items (at ranks (length marks)) homes.items) where
  abbrev owner : ℕ → ℕ
  owner s = at ranks (at numbers s)

  abbrev loops : ℕ
  loops = at ranks (length marks)

  abbrev count : ℕ
  count = length p.signals.items

  abbrev signal : ℕ → ℕ
  signal l = at p.signals.items l

  abbrev placed : Lanes
  placed = record { lanes = p.lanes; signals = p.signals; owners = p.owners; loops = loops; homes = homes }

  many : length marks ≡ length g.signals
  many = m.long

  are : AreLoops (links_of g) (length g.signals) marks owner loops
  are =
      subst (λ k. AreLoops (links_of g) (length g.signals) marks owner (at ranks k)) (sym many)
      (are_loops (links_of g) (length g.signals) numbers marks ranks c (reach_within (links_of g) (length g.signals) (links_within g graph)) r)

  -- the signal of a lane is there and marked
  there : (l : ℕ) → l < count → signal l < length g.signals
  there l k = let w = (n.named l k).0 in omega (arith, w, many)

  marked : (l : ℕ) → l < count → bit_at marks (signal l) ≡ true
  marked l k = (n.has (signal l) l (n.named l k).1).0

  -- the loop of a signal that is marked, and of one that is not
  place_yes : (s : ℕ) → s < length g.signals → bit_at marks s ≡ true → at p.places.items s ≡ owner s
  place_yes s l e = n.places s (omega (arith, many)) ∙ ap (λ b. if b then owner s else loops) e

  place_no : (s : ℕ) → s < length g.signals → bit_at marks s ≡ false → at p.places.items s ≡ loops
  place_no s l e = n.places s (omega (arith, many)) ∙ ap (λ b. if b then owner s else loops) e

  -- a signal whose place is below loops is marked
  placed_marked : (s : ℕ) → s < length g.signals → at p.places.items s < loops → bit_at marks s ≡ true
  placed_marked s l k = go (bit_at marks s) refl
    where
      go : (b : Bool) → bit_at marks s ≡ b → bit_at marks s ≡ true
      go true e = e
      go false e = absurd (omega (arith, k, place_no s l e))

  lanes_placed : LanesArePlaced g placed
  lanes_placed = record {
    long = n.long ∙ many;
    owned = n.owned;
    named = λ l k. (there l k, (n.named l k).1);
    has = λ s l e. let w = n.has s l e in ((m.each s).0 w.0, w.1, w.2);
    all = λ s k. let y = (m.each s).1 k in n.all s (marked_within s y) y;
  }
    where
      marked_within : (s : ℕ) → bit_at marks s ≡ true → s < length marks
      marked_within s y = within marks s y
        where
          within : (bs : List Bool) (s : ℕ) → bit_at bs s ≡ true → s < length bs
          within [] s y = absurd (let z : false ≡ true = y in cc)
          within (b ∷ bs) zero y = omega arith
          within (b ∷ bs) (suc s) y = let z = within bs s y in omega arith

  loops_placed : LoopsArePlaced g placed
  loops_placed = record {
    below = λ l k. let w = are.below (signal l) (there l k) (marked l k) in omega (arith, w, n.owners l k);
    together = λ a b ka kb.
        let t = are.together (signal a) (signal b) (there a ka) (there b kb) (marked a ka) (marked b kb) in
        (λ e. t.0 (sym (n.owners a ka) ∙ e ∙ n.owners b kb), λ w. n.owners a ka ∙ t.1 w ∙ sym (n.owners b kb));
    order = λ a b ka kb w. let k = are.order (signal a) (signal b) (there a ka) (there b kb) w in omega (arith, k, n.owners a ka, n.owners b kb);
    some = λ j k.
        let w = are.some j k in
        let l = n.all w.0 (omega (arith, w.1, many)) w.2 in
        let z = n.has w.0 l.0 l.1 in
        (l.0, z.1, n.owners l.0 z.1 ∙ ap owner z.2 ∙ w.3);
  }

  -- an inner signal is marked as one
  inner_of : (s : ℕ) → IsInner g s → bit_at inner s ≡ true
  inner_of s k = (i.each s).1 (k.within, record { computed = k.computed; sampled = k.sampled; alone = go (bit_at marks s) refl })
    where
      go : (b : Bool) → bit_at marks s ≡ b → bit_at marks s ≡ false
      go true e = absurd (k.alone ((m.each s).0 e))
      go false e = e

  is_inner : (s : ℕ) → bit_at inner s ≡ true → IsInner g s
  is_inner s e = let k = (i.each s).0 e in record {
    within = k.0;
    computed = k.1.computed;
    sampled = k.1.sampled;
    alone = λ y. let z = sym k.1.alone ∙ (m.each s).1 y in cc;
  }

  placed_long : length p.places.items ≡ length g.signals
  placed_long = n.placed ∙ many

  homes_placed : HomesArePlaced g placed
  homes_placed = record {
    long = h.long ∙ placed_long;
    lanes = λ l k.
        let e = place_yes (signal l) (there l k) (marked l k) in
        let b = are.below (signal l) (there l k) (marked l k) in
        h.lanes (signal l) (omega (arith, there l k, placed_long)) (omega (arith, e, b)) ∙ e ∙ sym (n.owners l k);
    inners = λ s l k. elim (h.inners s (omega (arith, placed_long)) k) [
      | inl w ↦ inl ((m.each s).0 (placed_marked s l w))
      | inr w ↦ inr (is_inner s w)
    ];
    closed = λ s q l k w y. h.closed s q (omega arith) (omega (arith, placed_long)) k ((leads_read g s q).1 w) (inner_of q y);
    lower = λ s q l ls k w e.
        let f = h.reached s (omega (arith, placed_long)) k in
        let lf : f.0 < length g.signals = omega (arith, f.1, placed_long) in
        let ef : owner f.0 ≡ at homes.items s = sym (place_yes f.0 lf (placed_marked f.0 lf (omega (arith, f.2, k)))) ∙ f.2 in
        let z = n.has q l e in
        let lq : q < length g.signals = omega (arith, there l z.1, z.2) in
        let o = are.order f.0 q lf lq (reaches_trans (all_reach g graph.ordered f.0 s f.3) w) in
        omega (arith, o, ef, n.owners l z.1, ap owner z.2);
  }

  pub are_placed : ArePlaced g placed
  are_placed = record { lanes = lanes_placed; loops = loops_placed; homes = homes_placed }
