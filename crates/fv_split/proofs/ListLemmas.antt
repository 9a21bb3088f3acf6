-- Lists that are made item by item, each from its place.
use Rattle.std.proofs.Common.{◌≡◌, inl, inr, ℕ, ◌+◌, ◌<◌, List, [], ◌∷◌, ◌++◌, length, get_or, refl, sym, ap, ◌∙◌, subst, arith}
use Rattle.std.specs.Prelude.{Option, Vec}
use Rattle.std.specs.declared.alloc.Global.{Global}
use Rattle.std.proofs.lemmas.Bool.{cases_lt}
use Rattle.std.proofs.lemmas.List.{length_push, get_or_push, get_or_append_left}
use Rattle.fv_signal.specs.declared.rate.Rate.{Rate}
use Rattle.fv_signal.specs.headline.Value.{Graph}
use Rattle.fv_signal.specs.headline.Rates.{rate_at}
use Rattle.fv_components.specs.headline.Reach.{at}
use Rattle.fv_loopcode.specs.declared.step.Step.{Step}
use Rattle.fv_analysis.specs.headline.Stands.{node}
use Rattle.fv_split_plan.specs.declared.lane.LaneInfo.{LaneInfo}
use Rattle.fv_split_plan.specs.Separated.{lane_at}
use Rattle.fv_split_code.specs.declared.kind.Kind.{Kind}
use Rattle.fv_split_code.specs.declared.kind.Kind.TheVariants as kind
use Rattle.fv_split_code.specs.Emits.{kind_of}
use Rattle.fv_split_code.specs.Emitted.{code_in}
use Rattle.fv_split.specs.inner.Bases.{base_of, kind_with, AreBases, AreKinds}
use Rattle.fv_split.specs.inner.Lists.{AreInfos, AreCoded}

-- the first n items are those of f
pub record AreOf {A : Type 0} (f : ℕ → A) (n : ℕ) (xs : List A) : Type 0 where
  pub long : length xs ≡ n
  pub each : (k : ℕ) (d : A) → k < n → get_or xs k d ≡ f k

pub of_more : {A : Type 0} (f : ℕ → A) (n : ℕ) (xs new : List A) (x : A) → AreOf f n xs → new ≡ xs ++ x ∷ [] → x ≡ f n → AreOf f (n + 1) new
of_more f n xs new x h e is = subst (AreOf f (n + 1)) (sym e) record {
  long = omega (arith, length_push xs x, h.long);
  each = λ k d l. elim (cases_lt k n) [
    | inl m ↦ get_or_append_left xs (x ∷ []) d k (omega (arith, h.long)) ∙ h.each k d m
    | inr m ↦ let z : k ≡ n = omega arith in get_or_push xs x d k (h.long ∙ sym z) ∙ is ∙ ap f (sym z)
  ];
}

pub bases_more : (g : Graph) (stands : List ℕ) (rates : List Rate) (lanes : List (Option ℕ)) (numbers : List ℕ) (n : ℕ) (bases new : List Kind) (k : Kind) →
    AreBases g stands rates lanes numbers n bases → new ≡ bases ++ k ∷ [] → k ≡ base_of g stands lanes (node g n) (rate_at rates n) (at numbers n) →
    AreBases g stands rates lanes numbers (n + 1) new
bases_more g stands rates lanes numbers n bases new k h e is = record {
  long = omega (arith, ap length e, length_push bases k, h.long);
  each = λ s l. ap (λ xs. kind_of xs s) e ∙ elim (cases_lt s n) [
    | inl m ↦ get_or_append_left bases (k ∷ []) kind.Inner s (omega (arith, h.long)) ∙ h.each s m
    | inr m ↦
        let z : s ≡ n = omega arith in
        get_or_push bases k kind.Inner s (h.long ∙ sym z) ∙ is ∙ ap (λ q. base_of g stands lanes (node g q) (rate_at rates q) (at numbers q)) (sym z)
  ];
}

pub kinds_more : (bases : List Kind) (lanes : List (Option ℕ)) (n : ℕ) (kinds new : List Kind) (k : Kind) →
    AreKinds bases lanes n kinds → new ≡ kinds ++ k ∷ [] →
    k ≡ kind_with (kind_of bases n) (lane_at lanes n) → AreKinds bases lanes (n + 1) new
kinds_more bases lanes n kinds new k h e is = record {
  long = omega (arith, ap length e, length_push kinds k, h.long);
  each = λ s l. ap (λ xs. kind_of xs s) e ∙ elim (cases_lt s n) [
    | inl m ↦ get_or_append_left kinds (k ∷ []) kind.Inner s (omega (arith, h.long)) ∙ h.each s m
    | inr m ↦
        let z : s ≡ n = omega arith in
        get_or_push kinds k kind.Inner s (h.long ∙ sym z) ∙ is ∙ ap (λ q. kind_with (kind_of bases q) (lane_at lanes q)) (sym z)
  ];
}

pub infos_more : (signals owners histories : List ℕ) (n : ℕ) (infos new : List LaneInfo) (x : LaneInfo) → AreInfos signals owners histories n infos →
    new ≡ infos ++ x ∷ [] →
    x ≡ record { owner = at owners n; history = at histories (at signals n) } → AreInfos signals owners histories (n + 1) new
infos_more signals owners histories n infos new x h e is =
    let k = of_more (λ l. record { owner = at owners l; history = at histories (at signals l) }) n infos new x (record {
      long = h.long;
      each =
          λ l d m. h.each l d m;
    }) e is in
    record { long = k.long; each = k.each }

pub coded_more : (codes : List (Vec Step Global)) (n : ℕ) (all new : List (List Step)) (x : List Step) → AreCoded codes n all → new ≡ all ++ x ∷ [] →
    x ≡ code_in codes n →
    AreCoded codes (n + 1) new
coded_more codes n all new x h e is = record {
  long = omega (arith, ap length e, length_push all x, h.long);
  each = λ j l. ap (λ xs. get_or xs j []) e ∙ elim (cases_lt j n) [
    | inl m ↦ get_or_append_left all (x ∷ []) [] j (omega (arith, h.long)) ∙ h.each j m
    | inr m ↦ let z : j ≡ n = omega arith in get_or_push all x [] j (h.long ∙ sym z) ∙ is ∙ ap (code_in codes) (sym z)
  ];
}

-- the steps after the first codes
pub code_behind : (front rest : List (Vec Step Global)) (v : Vec Step Global) → code_in (front ++ v ∷ rest) (length front) ≡ v.items
code_behind [] rest v = refl
code_behind (c ∷ cs) rest v = code_behind cs rest v

-- ---- the same of equal lists

pub same_bases : (g : Graph) (stands stands' : List ℕ) (rates rates' : List Rate) (lanes lanes' : List (Option ℕ)) (numbers numbers' : List ℕ) (n : ℕ)
    (bases : List Kind) →
    stands ≡ stands' → rates ≡ rates' → lanes ≡ lanes' → numbers ≡ numbers' → AreBases g stands rates lanes numbers n bases →
    AreBases g stands' rates' lanes' numbers' n bases
same_bases g stands stands' rates rates' lanes lanes' numbers numbers' n bases es er el en h =
    subst (λ x. AreBases g stands' rates' lanes' x n bases) en (subst (λ x. AreBases g stands' rates' x numbers n bases) el
    (subst (λ x. AreBases g stands' x lanes numbers n bases) er (subst (λ x. AreBases g x rates lanes numbers n bases) es h)))

pub same_kinds : (bases bases' : List Kind) (lanes lanes' : List (Option ℕ)) (n n' : ℕ) (kinds : List Kind) → bases ≡ bases' → lanes ≡ lanes' → n ≡ n' →
    AreKinds bases lanes n kinds →
    AreKinds bases' lanes' n' kinds
same_kinds bases bases' lanes lanes' n n' kinds eb el en h =
    subst (λ x. AreKinds bases' lanes' x kinds) en (subst (λ x. AreKinds bases' x n kinds) el (subst (λ x. AreKinds x lanes n kinds) eb h))

pub same_infos : (signals signals' owners owners' histories histories' : List ℕ) (n n' : ℕ) (infos : List LaneInfo) → signals ≡ signals' → owners ≡ owners' →
    histories ≡ histories' → n ≡ n' →
    AreInfos signals owners histories n infos → AreInfos signals' owners' histories' n' infos
same_infos signals signals' owners owners' histories histories' n n' infos es eo eh en h =
    subst (λ x. AreInfos signals' owners' histories' x infos) en (subst (λ x. AreInfos signals' owners' x n infos) eh
    (subst (λ x. AreInfos signals' x histories n infos) eo (subst (λ x. AreInfos x owners histories n infos) es h)))
