-- A cookie that gives place is replaced, or the new one comes last.
use Rattle.std.proofs.Common.{◌≡◌, All, true, false, get_or, sym, ap, subst, ◌∙◌}
use Rattle.std.proofs.lemmas.Bool.{and_parts}
use Rattle.std.proofs.lemmas.List.Elements.{All-get_or}
use Rattle.std.proofs.lemmas.Result.{on_ok_weaker}
use Rattle.cookie_browser.specs.Storage.{CookieStore, KeptView, is_same_cookie, lasting, lasts}
use Rattle.cookie_agent.specs.ExpiriesCode.{IsTimed}
use Rattle.cookie_agent.specs.LimitsCode.{blank}
use Rattle.cookie_agent.specs.RowsCode.{Slots, has, held, slot_at}
use Rattle.cookie_agent.specs.StoredCode.{gives_place}
use Rattle.cookie_agent.proofs.PutLemmas.{put_at, put_last}
use Rattle.cookie_agent.proofs.RowLemmas.{first-gives}
use Rattle.cookie_agent.proofs.SlotLemmas.{at-place, has_some, rows-put}
use Rattle.cookie_agent.proofs.TimedLemmas.{timed-put, timed-stay}
use Rattle.cookie_agent.proofs.rows.Rows.put.Goals as goal

pub returns-in_ok-replace-in-Some-clause-ok : goal.returns-in_ok-replace-in-Some-clause-ok
returns-in_ok-replace-in-Some-clause-ok c =
    let x : KeptView = c.args.cookie in
    let slots : Slots = c.args.self.now.slots.items in
    let cookies : CookieStore = held slots in
    let now = c.args.now in
    let place = c.in-Some.place in
    let found = has_some (gives_place x now) (slot_at slots place) (subst (λ (v : KeptView). has (gives_place v now) (slot_at slots place) ≡ true) c.as_kept.ensures c.in-Some.ensures) in
    let at = at-place slots place found.0 found.1 in
    let here : gives_place x now (get_or cookies at.place blank) ≡ true = ap (gives_place x now) (at.at blank) ∙ found.2 in
    let same = (and_parts (lasts (get_or cookies at.place blank).expiry now) (is_same_cookie (get_or cookies at.place blank) x) here).1 in
    ap (lasting now) (at.put x)
    ∙ sym (put_at now x blank cookies at.place c.requires.apart at.below (first-gives x blank now cookies c.requires.apart at.place at.below same) here)

pub returns-in_ok-replace-in-Some-clause-rows : goal.returns-in_ok-replace-in-Some-clause-rows
returns-in_ok-replace-in-Some-clause-rows c =
    let x : KeptView = c.args.cookie in
    let rows = c.args.self.now in
    let slots : Slots = rows.slots.items in
    let place = c.in-Some.place in
    let now = c.args.now in
    let found = has_some (gives_place x now) (slot_at slots place) (subst (λ (v : KeptView). has (gives_place v now) (slot_at slots place) ≡ true) c.as_kept.ensures c.in-Some.ensures) in
    let same = (and_parts (lasts (found.0).expiry now) (is_same_cookie found.0 x) found.2).1 in
    let put = rows-put rows place found.0 x c.requires.rows found.1 same in
    record {
      listed = put.0;
      timed = timed-put rows.expiries c.replace.new.self slots c.requires.rows.timed place x c.in_ok-replace-in-Some.ensures.others
          (subst (λ o. IsTimed c.replace.new.self place o) c.expiry_nanos.ensures c.in_ok-replace-in-Some.ensures.listed);
      counted = put.1;
    }

pub returns-in_err-replace-in-Some-clause-rows : goal.returns-in_err-replace-in-Some-clause-rows
returns-in_err-replace-in-Some-clause-rows c =
    let rows = c.args.self.now in
    record {
      listed = c.requires.rows.listed;
      timed = timed-stay rows.expiries c.replace.new.self rows.slots.items c.requires.rows.timed c.in_err-replace-in-Some.ensures.err;
      counted = c.requires.rows.counted;
    }

pub returns-in-None-clause-ok : goal.returns-in-None-clause-ok
returns-in-None-clause-ok c =
    let x : KeptView = c.args.cookie in
    let cookies : CookieStore = held c.args.self.now.slots.items in
    let now = c.args.now in
    let none : All (λ d. gives_place x now d ≡ false) cookies
    = subst (λ (v : KeptView). All (λ d. gives_place v now d ≡ false) cookies) c.as_kept.ensures c.in-None.ensures in
    on_ok_weaker c.push.result (λ is. ap (λ (s : CookieStore). lasting now s) is
    ∙ sym (put_last now x blank cookies (λ k lt. All-get_or (λ d. gives_place x now d ≡ false) cookies k blank lt none))) c.push.ensures.ok
