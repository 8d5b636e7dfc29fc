use Rattle.std.proofs.Common.{rules, ◌≡◌, ◌⊎◌, ◌+◌, length, List, [], ℕ, Bor, MatchResult, Ok, Err, get_or, map, drop, ap, sym, subst, ◌∙◌}
use Rattle.std.proofs.lemmas.List.{drop_more}
use Rattle.std.proofs.lemmas.Result.{err_from_is_err_and}
use Rattle.cookie_session.specs.KeyText.{key_in, keys_in}
use Rattle.cookie_session.specs.declared.key_text_error.KeyTextError.TheVariants as refusal
use Rattle.cookie_session.proofs.KeyTextLemmas.{after_keys, step_empty, step_key, step_refusal}
use Rattle.cookie_session.proofs.key_text.keys_of.Goals as goal
use Rattle.cookie_session.proofs.key_text.keys_of.Goals.{then-not-is_empty+in_ok-key_of+in_ok-push, else-not-is_empty}

pub returns-in_err-key_of : goal.returns-in_err-key_of
returns-in_err-key_of c =
    let whole = keys_in 0 (map (λ (text : Bor (List ℕ)). text.now) c.args.texts.now) in
    let text = (get_or c.args.texts.now c.loop-text.text-index (record { ref_ptr = (0, 0); now = [] })).now in
    let next = ap (map (λ (text : Bor (List ℕ)). text.now)) (drop_more c.args.texts.now c.loop-text.text-index _ c.loop-text-test.true) in
    let counted : c.len.result ≡ length c.loop-text.keys.items = search rules in
    let p = err_from_is_err_and c.from_residual.result c.from_residual.ensures.1 in
    let reads = subst (λ n. (c.key_of.result ≡ Err refusal.OutOfMemory) ⊎ (c.key_of.result ≡ key_in n text)) counted c.key_of.ensures in
    let refused = step_refusal whole c.loop-text.keys.items text _ _ next c.loop-text.invariant (sym c.is_empty.ensures ∙ c.if-not-is_empty.true) c.key_of.result c.in_err-key_of.field-0.0 reads c.in_err-key_of.was in
    subst (λ r. MatchResult r (λ keys. whole ≡ Ok keys.items) (λ why. (why ≡ refusal.OutOfMemory) ⊎ (whole ≡ Err why))) (sym p.1)
    (subst (λ why. (why ≡ refusal.OutOfMemory) ⊎ (whole ≡ Err why)) (sym p.2) refused)

pub loop-text-preserved : goal.loop-text-preserved
loop-text-preserved c =
    let whole = keys_in 0 (map (λ (text : Bor (List ℕ)). text.now) c.args.texts.now) in
    let text = (get_or c.args.texts.now c.loop-text.text-index (record { ref_ptr = (0, 0); now = [] })).now in
    let next = ap (map (λ (text : Bor (List ℕ)). text.now)) (drop_more c.args.texts.now c.loop-text.text-index _ c.loop-text-test.true) in
    elim c.if-not-is_empty.branch [
      | then-not-is_empty+in_ok-key_of+in_ok-push w ↦
          let counted : w.len.result ≡ length c.loop-text.keys.items = search rules in
          step_key whole c.loop-text.keys.items text _ _ next c.loop-text.invariant (sym c.is_empty.ensures ∙ w.if-not-is_empty.true) w.key_of.result w.in_ok-key_of.field-0 (subst (λ n. (w.key_of.result ≡ Err refusal.OutOfMemory) ⊎ (w.key_of.result ≡ key_in n text)) counted w.key_of.ensures) w.in_ok-key_of.was
          c.if-not-is_empty.keys.items (ap (λ keys. keys.items) w.keys-is ∙ w.in_ok-push.ensures.items)
      | else-not-is_empty w ↦
          ap (λ keys. after_keys keys.items (keys_in (length keys.items) (map (λ (text : Bor (List ℕ)). text.now) (drop (c.loop-text.text-index + 1) c.args.texts.now)))) w.keys-is
          ∙ step_empty whole c.loop-text.keys.items text _ _ next c.loop-text.invariant (sym c.is_empty.ensures ∙ w.if-not-is_empty.false)
    ]
