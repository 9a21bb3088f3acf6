-- All holds go back.
use Rattle.std.proofs.Common.{◌≡◌, ◌≢◌, ℕ, suc, ◌+◌, ◌<◌, List, [], ◌∷◌, map, length, get_or, refl, sym, ap, ◌∙◌, subst, arith}
use Rattle.std.specs.Global.{Vec}
use mathlib.Core.Logic.{dite}
use native.Mathlib.Decide.{ℕ_discrete, dec_le}
use Rattle.fv_steal.specs.declared.handles.Victim.{Victim}
use Rattle.fv_steal.specs.Deques.{lies_at, robs}
use Rattle.fv_steal.specs.declared.worker.Worker.{Worker}
use Rattle.fv_steal.specs.inner.Gathers.{places, IsBefore, HasGiven, HoldAll, HaveGiven}
use Rattle.fv_steal.proofs.Giving.{leb_bit, rest_then}

pub map_each : {X Y : Type 0} (f : X → Y) (xs ys : List X) → length ys ≡ length xs → ((i : ℕ) (d : X) → i < length xs → f (get_or ys i d) ≡ f (get_or xs i d))
    → map f ys ≡ map f xs
map_each f [] [] l h = refl
map_each f [] (y ∷ ys) l h = absurd (omega arith)
map_each f (x ∷ xs) [] l h = absurd (omega arith)
map_each f (x ∷ xs) (y ∷ ys) l h = let a = h 0 x (omega arith) in let r = map_each f xs ys (omega arith) (λ i d k. h (suc i) d (omega arith)) in
    ap (λ z. z ∷ map f ys) a ∙ ap (λ zs. f x ∷ zs) r

pub none_of_map : {X Y : Type 0} (f : X → Y) (xs : List X) → map f xs ≡ [] → xs ≡ []
none_of_map f [] h = refl
none_of_map f (x ∷ xs) h = let l = ap length h in absurd (omega arith)

pub below : (i w : ℕ) → i < w + 1 → i ≢ w → i < w
below i w l ne = dite (dec_le (suc i) w) (λ y. y) (λ n. absurd (ne (omega arith)))

module _ {C : Type 0} (old : List (Worker C)) where
  pub none_given : HoldAll old → HaveGiven 0 old old
  none_given h = record {
    count = refl;
    took_all = λ x. refl;
    keeps = λ i d l. record { put = refl; room = refl; place = refl; rest = (refl, refl, refl, refl) };
    given = λ i d l k. absurd (omega arith);
    holds = λ i d l k. h.holds i d l;
    lent = λ i d l. let q = h.lent i d l in omega arith;
  }

  module _ (w : ℕ) (now : List (Worker C)) (h : HaveGiven w old now) (there : w < length old) where
    same_places : places now ≡ places old
    same_places = map_each (λ (u : Worker C). lies_at u.deque) old now h.count (λ i d l. (h.keeps i d l).place)

    pub before_of : IsBefore w now
    before_of = record {
      holds = λ d. h.holds w d there (omega arith) ∙ sym same_places;
      lent = λ i d l. let c = h.count in let q = h.lent i d (omega arith) in let t = there in omega arith;
    }

    pub one_given : (new : List (Worker C)) → HasGiven w 0 now new → HaveGiven (w + 1) old new
    one_given new k = record {
      count = k.count ∙ h.count;
      took_all = λ x. k.took_all x ∙ h.took_all x;
      keeps = λ i d l. let a = h.keeps i d l in let b = k.keeps i d (let c = h.count in omega arith) in record {
        put = b.put ∙ a.put;
        room = b.room ∙ a.room;
        place = b.place ∙ a.place;
        rest = rest_then (get_or old i d) (get_or now i d) (get_or new i d) a.rest b.rest;
      };
      given = λ i d l s. dite (ℕ_discrete i w)
          (λ e. subst (λ j. (get_or new j d).victims.items ≡ []) (sym e) (none_of_map robs (get_or new w d).victims.items (k.mine d)))
          (λ ne. ap (λ (v : Vec Victim). v.items) (k.others i d (let c = h.count in omega arith) ne) ∙ h.given i d l (below i w s ne));
      holds = λ i d l s. ap (λ (v : Vec Victim). map robs v.items) (k.others i d (let c = h.count in omega arith) (λ e. let q = e in absurd (omega arith)))
          ∙ h.holds i d l (omega arith);
      lent = λ i d l. let q = h.lent i d l in let c = h.count in let p = k.lent i d (omega arith) in let o = leb_bit 0 i (omega arith) in omega arith;
    }
