-- The new cookie's slot is in the index.
use Rattle.std.proofs.Common.{◌≡◌, ◌+◌, ◌++◌, ◌∷◌, [], Some, length, reverse, sym, ap, subst, ◌∙◌, arith}
use Rattle.std.proofs.lemmas.List.{length-append}
use Rattle.cookie_browser.specs.Storage.{KeptView}
use Rattle.cookie_agent.specs.ExpiriesCode.{IsTimed}
use Rattle.cookie_agent.specs.IndexCode.{IsNumberAt, Lists}
use Rattle.cookie_agent.specs.RowsCode.{AreListed, AreTimed, Slots, held}
use Rattle.cookie_agent.proofs.SlotLemmas.{held-push, listed-in, listed-push}
use Rattle.cookie_agent.proofs.TimedLemmas.{timed-push, timed-stay}
use Rattle.cookie_agent.proofs.rows.Rows.append.Goals as goal

pub returns-clause-ok : goal.returns-clause-ok
returns-clause-ok c =
    ap held (c.in_ok-push.ensures.items ∙ ap (λ (s : Slots). s ++ Some c.args.cookie ∷ []) c.make_room.ensures) ∙ held-push c.args.self.now.slots.items c.args.cookie

pub returns-clause-rows : goal.returns-clause-rows
returns-clause-rows c =
    let slots : Slots = c.args.self.now.slots.items in
    let x : KeptView = c.args.cookie in
    let new = c.add.new.self in
    let room : c.make_room.new.slots.items ≡ slots = c.make_room.ensures in
    let pushed : c.push.new.self.items ≡ slots ++ Some x ∷ [] = c.in_ok-push.ensures.items ∙ ap (λ (s : Slots). s ++ Some x ∷ []) room in
    let stay : AreListed new slots = listed-in c.args.self.now.index new slots (λ d k full here. c.in_ok-add.ensures.stay (reverse d) k here) c.requires.rows.listed in
    let number : c.len-number.result ≡ length slots = (let len = c.len-number.ensures in let ok = c.make_room.new.slots.ok.0 in let same = ap (λ (s : Slots). length s) room in omega (arith, len, ok, same)) in
    let added : Lists new x.domain (length slots)
    = subst (λ k. IsNumberAt new k (length slots)) c.requires.key (subst (λ n. IsNumberAt new c.args.key.items n) number c.in_ok-add.ensures.added) in
    let more : length (held c.push.new.self.items) ≡ length (held slots) + 1 = ap (λ s. length (held s)) pushed ∙ ap (λ l. length l) (held-push slots x) ∙ length-append (held slots) (x ∷ []) in
    let long : length c.push.new.self.items ≡ length slots + 1 = ap (λ s. length s) pushed ∙ length-append slots (Some x ∷ []) in
    let counted = c.requires.rows.counted in
    let timed = timed-push c.args.self.now.expiries c.add-2.new.self slots c.requires.rows.timed x c.in_ok-add-2.ensures.stay
    (subst (λ o. IsTimed c.add-2.new.self (length slots) o) c.expiry_nanos.ensures (subst (λ n. IsTimed c.add-2.new.self n c.expiry_nanos.result) number c.in_ok-add-2.ensures.listed)) in
    record {
      timed = subst (AreTimed c.add-2.new.self) (sym pushed) timed;
      listed = subst (AreListed new) (sym pushed) (listed-push new slots x stay added);
      counted = omega (arith, more, long, counted);
    }

pub returns-in_err-push-clause-rows : goal.returns-in_err-push-clause-rows
returns-in_err-push-clause-rows c =
    let slots : Slots = c.args.self.now.slots.items in
    let same : c.push.new.self.items ≡ slots = c.in_err-push.ensures.items ∙ c.make_room.ensures in
    record {
      listed = subst (AreListed c.add.new.self) (sym same) (listed-in c.args.self.now.index c.add.new.self slots (λ d k full here. c.in_ok-add.ensures.stay (reverse d) k here) c.requires.rows.listed);
      timed = subst (AreTimed c.add-2.new.self) (sym same) (timed-stay c.args.self.now.expiries c.add-2.new.self slots c.requires.rows.timed c.in_ok-add-2.ensures.stay);
      counted = subst (λ (s : Slots). c.args.self.now.empty + length (held s) ≡ length s) (sym same) c.requires.rows.counted;
    }
