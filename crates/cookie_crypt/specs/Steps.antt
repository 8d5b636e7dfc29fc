-- What a sealing costs, as counts.
use Rattle.std.specs.Prelude.{ℕ, ◌+◌, ◌*◌, ◌/◌}

-- the blocks encrypted, the products taken in the field, and the entries of a table of multiples looked up and added
pub record StepCounts : Type 0 where
  pub blocks : ℕ
  pub products : ℕ
  pub table_steps : ℕ

abbrev pub no_steps : StepCounts
no_steps = record { blocks = 0; products = 0; table_steps = 0 }

-- this many blocks more
abbrev pub with_blocks : ℕ → StepCounts → StepCounts
with_blocks count steps = record steps { blocks = steps.blocks + count }

-- this many products more, each of 32 entries
abbrev pub with_products : ℕ → StepCounts → StepCounts
with_products count steps =
    record steps {
      products = steps.products + count;
      table_steps = steps.table_steps + 32 * count;
    }

-- the number of blocks of sixteen bytes that this many bytes take
abbrev pub block_count : ℕ → ℕ
block_count bytes = (bytes + 15) / 16

-- the tag of a text under data, by their lengths: two blocks, of H and of J0, and a product for each block of data, text
-- and lengths
abbrev pub tag_steps : ℕ → ℕ → StepCounts
tag_steps aad text = record {
  blocks = 2;
  products = block_count aad + block_count text + 1;
  table_steps = 32 * (block_count aad + block_count text + 1);
}

-- the sealing of a text under data: those, and a block for each block of the text
abbrev pub sealing_steps : ℕ → ℕ → StepCounts
sealing_steps aad text = record {
  blocks = block_count text + 2;
  products = block_count aad + block_count text + 1;
  table_steps = 32 * (block_count aad + block_count text + 1);
}

-- the tag under a key that keeps the multiples of H: only the block of J0
abbrev pub prepared_tag_steps : ℕ → ℕ → StepCounts
prepared_tag_steps aad text = record (tag_steps aad text) { blocks = 1 }

-- the sealing under a key that keeps the multiples of H: a block for J0 and for each block of the text
abbrev pub prepared_sealing_steps : ℕ → ℕ → StepCounts
prepared_sealing_steps aad text = record (sealing_steps aad text) { blocks = block_count text + 1 }
