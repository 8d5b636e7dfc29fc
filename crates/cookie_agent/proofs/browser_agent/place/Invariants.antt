-- None of the cookies so far is the same, and all are as they were.
use Rattle.std.proofs.Common.{◌≡◌, ℕ, ◌<◌, false, get_or}
use Rattle.cookie_agent.specs.Beyond.{is_same_dated}
use Rattle.cookie_agent.proofs.browser_agent.place.Given as goal

abbrev pub invariant-loop-index : goal.invariant-loop-index
invariant-loop-index l = record {
  same : l.cookies ≡ l.fn.cookies;
  before : (k : ℕ) → k < l.index → is_same_dated (get_or l.fn.cookies.items k l.fn.cookie) l.fn.cookie ≡ false;
}
