use Rattle.std.proofs.Common.{◌≡◌, ℕ, ◌+◌, ◌≤◌, List, length, ◌∙◌, arith, bit_xor}
use Rattle.std.specs.Simd.Lanes.{zip2, chunk}
use Rattle.std.proofs.lemmas.Simd.{get_or-put_chunk_below, get_or-put_chunk_at, get_or-put_chunk_above}
use Rattle.cookie_crypt.proofs.LaneLemmas.{length-sum, sum_at}
use Rattle.cookie_crypt.proofs.block.add_block.Goals as goal

pub returns-then-bytes-start-ge16-clause-added : goal.returns-then-bytes-start-ge16-clause-added
returns-then-bytes-start-ge16-clause-added c = λ j h within.
    let bytes : List ℕ = c.args.bytes.now in
    let block : List ℕ = c.args.block.now in
    let start : ℕ = c.args.start in
    let room : start + 16 ≤ length bytes = omega arith in
    let long : length (zip2 bit_xor (chunk start 16 bytes) block) ≡ 16 = length-sum bytes block start room c.told-block in
    get_or-put_chunk_at start bytes (zip2 bit_xor (chunk start 16 bytes) block) j 0 (omega (arith, long)) (omega (arith, long))
    ∙ sum_at bytes block start j room c.told-block h

pub returns-then-bytes-start-ge16-clause-before : goal.returns-then-bytes-start-ge16-clause-before
returns-then-bytes-start-ge16-clause-before c = λ k h.
    get_or-put_chunk_below c.args.start c.args.bytes.now (zip2 bit_xor (chunk c.args.start 16 c.args.bytes.now) c.args.block.now) k 0 h

pub returns-then-bytes-start-ge16-clause-after : goal.returns-then-bytes-start-ge16-clause-after
returns-then-bytes-start-ge16-clause-after c = λ k h.
    let bytes : List ℕ = c.args.bytes.now in
    let block : List ℕ = c.args.block.now in
    let start : ℕ = c.args.start in
    let room : start + 16 ≤ length bytes = omega arith in
    let long : length (zip2 bit_xor (chunk start 16 bytes) block) ≡ 16 = length-sum bytes block start room c.told-block in
    get_or-put_chunk_above start bytes (zip2 bit_xor (chunk start 16 bytes) block) k 0 (omega (arith, long))
