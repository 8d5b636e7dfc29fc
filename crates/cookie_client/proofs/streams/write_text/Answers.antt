use Rattle.std.proofs.Common.{ℕ, List, ◌+◌, ◌-◌, ◌≤◌, ◌≡◌, take, drop, ◌++◌, subst, sym, ap, ◌∙◌, take-add, take_all, length-drop, arith, length}
use Rattle.std.specs.Io.KnownBytes.{Appends}
use Rattle.std.proofs.KnownBytes.{Appends-trans}
use Rattle.cookie_client.proofs.streams.write_text.Goals as goal

rest_is : (text : List ℕ) (w : ℕ) → take (length text - w) (drop w text) ≡ drop w text
rest_is text w = take_all (length text - w) (drop w text) (omega (arith, length-drop w text))

joined : (text : List ℕ) (w n : ℕ) → take w text ++ take n (take (length text - w) (drop w text)) ≡ take (w + n) text
joined text w n = ap (λ l. take w text ++ take n l) (rest_is text w) ∙ sym (take-add w n text)

within : (text : List ℕ) (w n : ℕ) → w ≤ length text → n ≤ length (take (length text - w) (drop w text)) → w + n ≤ length text
within text w n a b = omega (arith, ap length (rest_is text w), length-drop w text)

pub loop-written-preserved : goal.loop-written-preserved
loop-written-preserved g c =
    record {
      within = within _ _ _ c.loop-written.invariant.within c.in-Ok.ensures.bound;
      so_far = subst (Appends _ _) (joined c.args.text.now c.loop-written.written c.in-Ok.count) (Appends-trans _ _ _ _ _ c.loop-written.invariant.so_far c.in-Ok.ensures.bytes);
    }
