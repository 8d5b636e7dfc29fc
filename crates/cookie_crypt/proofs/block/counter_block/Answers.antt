use Rattle.std.proofs.Common.{◌≡◌, ℕ, ◌%◌, ◌^◌, List, [], ◌∷◌, ◌++◌, get_or, map, refl, ap, sym, ◌∙◌, arith}
use Rattle.std.specs.List.{range_with_len}
use Rattle.std.specs.Int.{w32, to_be_bytes}
use Rattle.std.proofs.lemmas.List.FromFn.{fill_by_all}
use Rattle.cookie_crypt.specs.Gcm.{counter_block}
use Rattle.cookie_crypt.proofs.block.counter_block.Goals as goal

pub returns : goal.returns
unfolding counter_block
returns c =
    let nonce : List ℕ = c.args.nonce.now in
    let read : List ℕ = map (λ k. get_or nonce k 0) (range_with_len 0 12) in
    let first : nonce ≡ read = fill_by_all (λ k. get_or nonce k 0) nonce 12 0 c.told-nonce (λ k h. refl) in
    let whole : c.args.counter ≡ c.args.counter % 2 ^ 32 = omega arith in
    ap (λ (r : List ℕ). read ++ (get_or r 0 0 ∷ get_or r 1 0 ∷ get_or r 2 0 ∷ get_or r 3 0 ∷ [])) c.to_be_bytes.ensures
    ∙ ap (λ x. x ++ to_be_bytes w32 c.args.counter) (sym first)
    ∙ ap (λ n. nonce ++ to_be_bytes w32 n) whole
