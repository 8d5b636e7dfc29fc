-- A hash of names is the one of the function that it stands for.
use Rattle.std.proofs.Common.{◌≡◌, ℕ, List, [], ◌∷◌, refl}
use Rattle.std.specs.List.{fold}
use Rattle.std.specs.Hash.FoldHasher as folding
use Rattle.std.specs.Hash.DefaultHasher as sip
use Rattle.std.specs.declared.hash.FoldHasher.{FoldHasher}
use Rattle.std.specs.declared.hash.DefaultHasher.{DefaultHasher}
use Rattle.cookie.specs.NameHash.{state_after}
use Rattle.cookie.specs.declared.name_hash.NameHasher.TheVariants as state

pub state_after-Fixed : (writes : List (List ℕ)) (s : FoldHasher) → fold state_after (state.Fixed s) writes ≡ state.Fixed (fold folding.write s writes)
state_after-Fixed [] s = refl
state_after-Fixed (w ∷ ws) s = state_after-Fixed ws (folding.write s w)

pub state_after-Keyed : (writes : List (List ℕ)) (s : DefaultHasher) → fold state_after (state.Keyed s) writes ≡ state.Keyed (fold sip.write s writes)
state_after-Keyed [] s = refl
state_after-Keyed (w ∷ ws) s = state_after-Keyed ws (sip.write s w)
