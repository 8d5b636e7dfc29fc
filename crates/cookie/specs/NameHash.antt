-- Mirrors private code: what hashing a name computes, with fixed keys or drawn ones (src/name_hash.rt).
use Rattle.std.specs.Prelude.{ℕ, List}
use Rattle.std.specs.Hash.FoldHasher as folding
use Rattle.std.specs.Hash.DefaultHasher as sip
use Rattle.std.specs.RandomState.{initial_hasher}
use Rattle.cookie.specs.declared.name_hash.NameHash.{NameHash}
use Rattle.cookie.specs.declared.name_hash.NameHash.TheVariants as hash
use Rattle.cookie.specs.declared.name_hash.NameHasher.{NameHasher}
use Rattle.cookie.specs.declared.name_hash.NameHasher.TheVariants as state

-- the state before the first write
abbrev pub first_state : NameHash → NameHasher
first_state hash.Fixed = state.Fixed folding.initial
first_state (hash.Keyed keys) = state.Keyed (initial_hasher keys)

-- the state after a write
abbrev pub state_after : NameHasher → List ℕ → NameHasher
state_after (state.Fixed s) bytes = state.Fixed (folding.write s bytes)
state_after (state.Keyed s) bytes = state.Keyed (sip.write s bytes)

-- what is answered at the end
abbrev pub hash_of : NameHasher → ℕ
hash_of (state.Fixed s) = folding.finish s
hash_of (state.Keyed s) = sip.finish s
