use Rattle.std.proofs.Common.{◌≡◌, ◌<◌, [], ℤ, Vec, Global, length, get_or, sym, ap, ◌∙◌, arith}
use Rattle.std.specs.List.{position_or_len}
use Rattle.std.proofs.lemmas.List.{length-map}
use Rattle.std.proofs.lemmas.List.Sums.{passes_at_first}
use Rattle.fv_share.specs.Drafts.{Draft, lists_in, same_list}
use Rattle.fv_share.proofs.lemmas.Same.{lists_equal}
use Rattle.fv_share.proofs.builder.Builder.table.Goals as goal

pub returns-then-place-len-clause-there : goal.returns-then-place-len-clause-there
returns-then-place-len-clause-there c =
    let d = c.args.self.now in
    let T = c.args.values.now in
    let here : lists_in c.deref.result.now ≡ d.tables = ap lists_in c.deref.ensures.value ∙ ap (λ (e : Draft). e.tables) c.self.view_is in
    let place : c.place_of-place.result ≡ position_or_len (same_list T) d.tables = c.place_of-place.ensures ∙ ap (position_or_len (same_list T)) here in
    let long : length (lists_in c.deref.result.now) ≡ length c.deref.result.now = length-map c.deref.result.now (λ (row : Vec ℤ Global). row.items) in
    let within : position_or_len (same_list T) d.tables < length d.tables =
    omega (arith, c.if-place-len.true, c.len.ensures, c.deref.ensures.len, place, long, ap length here) in
    ap (λ t. get_or d.tables t []) place ∙ sym (lists_equal T (get_or d.tables (position_or_len (same_list T) d.tables) [])
    (passes_at_first (same_list T) d.tables [] within))
