-- Names that were seen, in a map, against the list of them.
use Rattle.std.proofs.Common.{◌≡◌, ℕ, ◌+◌, ◌<◌, Bool, true, false, cond, List, [], ◌∷◌, ◌++◌, length, take, drop, get_or, Option, Some, None, refl, sym, ap}
use Rattle.std.proofs.Common.{◌∙◌}
use Rattle.std.specs.Prelude.{unwrap_or}
use Rattle.std.specs.Option.{option_or}
use Rattle.std.specs.Str.{bytes_eq}
use Rattle.std.specs.BTreeMap.{BTreeMap, get_by, UpdatesBy}
use Rattle.std.specs.Ordering.{nat_cmp}
use Rattle.std.specs.Cmp.Lexicographic.{slice_cmp}
use Rattle.std.proofs.lemmas.List.{take_more}
use Rattle.std.proofs.lemmas.Map.Text.{btree_map_updates_str}
use Rattle.std.proofs.lemmas.Slice.Eq.{bytes_eq-Decides}
use denote.Ref.{Bor}
use Rattle.fv_base.proofs.lemmas.Lists.{drop_step}
use Rattle.fv_lex.specs.headline.Token.{Lexed}
use Rattle.fv_parse.specs.declared.definitions.Defined.{Defined}
use Rattle.fv_parse.specs.declared.clash.StaticError.{StaticError}
use Rattle.fv_parse.specs.declared.clash.Among.{Among}
use Rattle.fv_parse.specs.headline.Trees.{text_of}
use Rattle.fv_parse.specs.headline.StaticErrors.{width_of, clash_with, first_clash}

-- ---- a map that keeps the first value of each text
picked : (o : Option ℕ) (v : ℕ) → Some (unwrap_or o v) ≡ option_or o (Some v)
picked None v = refl
picked (Some w) v = refl

alone : (o : Option ℕ) → o ≡ option_or o None
alone None = refl
alone (Some w) = refl

pub keeps_first : (m n : BTreeMap (Bor (List ℕ)) ℕ) (known : List ℕ → Option ℕ) (name : List ℕ) (found : Option ℕ) (v : ℕ)
    → ((cs : List ℕ) → get_by (λ k. slice_cmp nat_cmp cs k.now) m ≡ known cs) → found ≡ known name
    → UpdatesBy (λ x y. slice_cmp nat_cmp x.now y.now) (λ k. slice_cmp nat_cmp name k.now) m n (Some (unwrap_or found v))
    → (cs : List ℕ) → get_by (λ k. slice_cmp nat_cmp cs k.now) n ≡ option_or (known cs) (cond (bytes_eq name cs) (Some v) None)
keeps_first m n known name found v is got updated cs = btree_map_updates_str name m n (Some (unwrap_or found v)) updated cs ∙ go (bytes_eq name cs) refl
  where
    go : (b : Bool)
        → bytes_eq name cs ≡ b → cond b (Some (unwrap_or found v)) (get_by (λ k. slice_cmp nat_cmp cs k.now) m) ≡ option_or (known cs) (cond b (Some v) None)
    go true e = picked found v ∙ ap (λ o. option_or o (Some v)) (got ∙ ap known ((bytes_eq-Decides name cs).0 e))
    go false e = is cs ∙ alone (known cs)

-- ---- clashes
clash_step : (kind : Among) (l : Lexed) (ds : List Defined) (i : ℕ) (d : Defined) → i < length ds
    → first_clash kind l (take i ds) (drop i ds)
    ≡ option_or (clash_with kind (get_or ds i d) (width_of l (take i ds) (text_of l (get_or ds i d).name)))
    (first_clash kind l (take (i + 1) ds) (drop (i + 1) ds))
clash_step kind l ds i d h =
    let e = get_or ds i d in
    ap (λ z. first_clash kind l (take i ds) z) (drop_step ds i d h)
    ∙ ap (λ z. option_or (clash_with kind e (width_of l (take i ds) (text_of l e.name))) (first_clash kind l z (drop (i + 1) ds))) (sym (take_more ds i d h))

-- what is known of a definition that was looked up
pub record LookedUp (kind : Among) (l : Lexed) (ds : List Defined) (i : ℕ) (d : Defined) (name : List ℕ) (found : Option ℕ)
    (here : Option StaticError) : Type 0 where
  pub inside : i < length ds
  pub named : name ≡ text_of l (get_or ds i d).name
  pub got : found ≡ width_of l (take i ds) name
  pub given : here ≡ clash_with kind (get_or ds i d) found

pub clash_is : (kind : Among) (l : Lexed) (ds : List Defined) (i : ℕ) (d : Defined) (name : List ℕ) (found : Option ℕ)
    (here found_here whole : Option StaticError) → LookedUp kind l ds i d name found here → here ≡ found_here
    → first_clash kind l (take i ds) (drop i ds) ≡ whole → option_or found_here (first_clash kind l (take (i + 1) ds) (drop (i + 1) ds)) ≡ whole
clash_is kind l ds i d name found here found_here whole u is so_far =
    ap (λ o. option_or o (first_clash kind l (take (i + 1) ds) (drop (i + 1) ds)))
    (sym is ∙ u.given ∙ ap (clash_with kind (get_or ds i d)) (u.got ∙ ap (width_of l (take i ds)) u.named))
    ∙ sym (clash_step kind l ds i d u.inside) ∙ so_far

-- ---- widths
width_push : (l : Lexed) (xs : List Defined) (e : Defined) (cs : List ℕ)
    → width_of l (xs ++ e ∷ []) cs ≡ option_or (width_of l xs cs) (cond (bytes_eq (text_of l e.name) cs) (Some e.width) None)
width_push l [] e cs = refl
width_push l (x ∷ xs) e cs = ap (λ o. cond (bytes_eq (text_of l x.name) cs) (Some x.width) o) (width_push l xs e cs) ∙ either (bytes_eq (text_of l x.name) cs)
  where
    last : Option ℕ
    last = cond (bytes_eq (text_of l e.name) cs) (Some e.width) None

    either : (b : Bool) → cond b (Some x.width) (option_or (width_of l xs cs) last) ≡ option_or (cond b (Some x.width) (width_of l xs cs)) last
    either true = refl
    either false = refl

pub width_on : (l : Lexed) (ds : List Defined) (i : ℕ) (d : Defined) (name cs : List ℕ) → i < length ds → name ≡ text_of l (get_or ds i d).name
    → option_or (width_of l (take i ds) cs) (cond (bytes_eq name cs) (Some (get_or ds i d).width) None) ≡ width_of l (take (i + 1) ds) cs
width_on l ds i d name cs h named =
    ap (λ t. option_or (width_of l (take i ds) cs) (cond (bytes_eq t cs) (Some (get_or ds i d).width) None)) named
    ∙ sym (width_push l (take i ds) (get_or ds i d) cs) ∙ ap (λ z. width_of l z cs) (sym (take_more ds i d h))
