-- Rows of links, and the nodes that they name.
use Rattle.std.proofs.Common.{ℕ, ◌<◌, All, subst, refl, get_or}
use Rattle.std.proofs.lemmas.List.Elements.{All-get_or, All-from_get_or}
use Rattle.fv_components.specs.headline.Reach.{Links}
use Rattle.fv_components.specs.Reach.{AreLinks}

-- rows whose nodes are all below n are links below n
pub links_from_rows : (next : Links) (n : ℕ) → ((a : ℕ) → a < n → All (λ b. b < n) (next a)) → AreLinks next n
links_from_rows next n rows a b l step = subst (λ x. x < n) step.is (All-get_or (λ x. x < n) (next a) step.place 0 step.within (rows a l))

-- links below n name nodes below n alone
pub rows_of_links : (next : Links) (n a : ℕ) → AreLinks next n → a < n → All (λ b. b < n) (next a)
rows_of_links next n a links l = All-from_get_or (λ x. x < n) (next a) 0 (λ i h. links a (get_or (next a) i 0) l (record { place = i; within = h; is = refl }))
