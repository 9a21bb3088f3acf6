-- One lane, table or list of cells among others.
use Rattle.std.proofs.Common.{◌≡◌, ℕ, ◌<◌, ◌≤◌, List, [], length, get_or, set, map, refl, sym, ap, ap₂, ◌∙◌, subst, ℤ, All}
use Rattle.std.proofs.lemmas.List.{map-set, get_or-map, length-map}
use Rattle.std.proofs.lemmas.List.Elements.{All-get_or, All-map}
use Rattle.fv_num.specs.headline.Tables.{written}
use Rattle.fv_loopcode.specs.headline.Lanes.{Lane, no_lane, lane_of, appended}
use Rattle.fv_loopcode.specs.headline.State.{State, list_at}
use Rattle.fv_loops_random_tests.specs.Shelves.{lane_on, items_of}
use Rattle.fv_loops_random_tests.specs.declared.shelves.Track.{Track}
use Rattle.fv_loops_random_tests.specs.declared.shelves.Items.{Items}

abbrev pub state_with : List Lane → (tables cells : List (List ℤ)) → State
state_with lanes tables cells = record { lanes = lanes; tables = tables; cells = cells }

pub one_appended : (ts : List Track) (l : ℕ) (old new : Track) (d : Track) (v x : ℤ) → l < length (map lane_on ts) → old ≡ get_or ts l d →
    lane_on new ≡ appended (lane_on old) v → v ≡ x →
    map lane_on (set ts l new) ≡ set (map lane_on ts) l (appended (lane_of (map lane_on ts) l) x)
one_appended ts l old new d v x there is e same =
    map-set lane_on ts l new
    ∙ ap (set (map lane_on ts) l) (e
    ∙ ap (appended (lane_on old)) same
    ∙ ap (λ y. appended y x) (ap lane_on is ∙ sym (get_or-map lane_on ts l d no_lane (subst (λ m. l < m) (length-map ts lane_on) there))))

pub one_written : (xs : List Items) (k : ℕ) (old new : Items) (d : Items) (v y w x : ℤ) → k < length (map items_of xs) → old ≡ get_or xs k d →
    items_of new ≡ written (items_of old) v y → v ≡ w → y ≡ x →
    map items_of (set xs k new) ≡ set (map items_of xs) k (written (list_at (map items_of xs) k) w x)
one_written xs k old new d v y w x there is e same alike =
    map-set items_of xs k new
    ∙ ap (set (map items_of xs) k) (e ∙ ap₂ (written (items_of old)) same alike
    ∙ ap (λ y. written y w x) (ap items_of is ∙ sym (get_or-map items_of xs k d [] (subst (λ m. k < m) (length-map xs items_of) there))))

pub rooms : (ts : List Track) (room : ℕ) → All (λ t. room ≤ (lane_on t).room) ts →
    (l : ℕ) → l < length (map lane_on ts) → room ≤ (lane_of (map lane_on ts) l).room
rooms ts room all l there = All-get_or (λ lane. room ≤ lane.room) (map lane_on ts) l no_lane there (All-map (λ lane. room ≤ lane.room) lane_on ts all)
