use Rattle.std.proofs.Common.{◌≡◌, ◌∷◌, ◌++◌, [], All, map, sym, ap, subst, ◌∙◌, string_bytes}
use Rattle.std.proofs.lemmas.List.Elements.{All-nil}
use Rattle.std.proofs.lemmas.Str.{IsUtf8-string_bytes}
use Rattle.std.specs.FinMap.{entries}
use Rattle.cookie.specs.Header.{joined_texts}
use Rattle.cookie_client.specs.Client.{pair_text}
use Rattle.cookie_client.proofs.HeaderLemmas.{Pair, IsKnown, all_named, header-cookies, header-first, header-last, header-next, header-read, known-first}
use Rattle.cookie_client.proofs.client.Client.header.Goals as goal

pub returns-in_default-clause-reads_back : goal.returns-in_default-clause-reads_back
returns-in_default-clause-reads_back c unnamed =
    let named = all_named c.args.self.now unnamed in
    let none : entries c.args.self.now ≡ [] =
    sym c.iter-pairs.ensures.listed ∙ c.in_default.ensures.steps.0 in
    header-read _ (entries c.args.self.now) (subst (All IsKnown) (sym none) (All-nil IsKnown)) named
    (c.new-header.ensures.bytes ∙ sym (ap (λ es. joined_texts (map pair_text es)) none))

pub returns-in_default-clause-cookies : goal.returns-in_default-clause-cookies
returns-in_default-clause-cookies c unnamed =
    let named = all_named c.args.self.now unnamed in
    let none : entries c.args.self.now ≡ [] =
    sym c.iter-pairs.ensures.listed ∙ c.in_default.ensures.steps.0 in
    header-cookies _ (entries c.args.self.now) (IsUtf8-string_bytes c.new-header.result) (subst (All IsKnown) (sym none) (All-nil IsKnown)) named
    (c.new-header.ensures.bytes ∙ sym (ap (λ es. joined_texts (map pair_text es)) none))

pub loop-name-init : goal.loop-name-init
loop-name-init c =
    let rest = c.into_iter-name-iterator.result in
    let pair : Pair = (c.in-Some.name.now, c.in-Some.value.now) in
    let all : entries c.args.self.now ≡ pair ∷ rest =
    sym c.iter-pairs.ensures.listed ∙ c.in-Some.ensures.steps
    ∙ ap (λ es. pair ∷ es) (sym c.into_iter-name-iterator.ensures.into_iter_gives) in
    record {
      text = header-first _ _ pair rest _ all c.new-header.ensures.bytes c.in_ok-push_pair.ensures.written;
      known = known-first pair rest _ all c.in_ok-push_pair.ensures.cookie;
    }

pub loop-name-preserved : goal.loop-name-preserved
loop-name-preserved c =
    let rest = c.next-in-loop-name.new.self in
    let pair : Pair = (c.in-Some-2.name.now, c.in-Some-2.value.now) in
    record {
      text = header-next (string_bytes c.loop-name.header) _ pair rest _ c.in-Some-2.ensures.steps (c.in_ok-push_pair-2.ensures.written ∙ ap (λ h. h ++ pair_text pair) c.in_ok-push_str.ensures.bytes)
          ∙ c.loop-name.invariant.text;
      known = λ k. c.loop-name.invariant.known (known-first pair rest _ c.in-Some-2.ensures.steps c.in_ok-push_pair-2.ensures.cookie k);
    }

pub returns-clause-reads_back : goal.returns-clause-reads_back
returns-clause-reads_back c unnamed =
    let named = all_named c.args.self.now unnamed in
    let none = c.in-None.ensures.steps.0 in
    header-read _ (entries c.args.self.now) (c.loop-name.invariant.known (subst (All IsKnown) (sym none) (All-nil IsKnown))) named
    (header-last _ _ none ∙ c.loop-name.invariant.text)

pub returns-clause-cookies : goal.returns-clause-cookies
returns-clause-cookies c unnamed =
    let named = all_named c.args.self.now unnamed in
    let none = c.in-None.ensures.steps.0 in
    header-cookies _ (entries c.args.self.now) (IsUtf8-string_bytes c.loop-name.header)
    (c.loop-name.invariant.known (subst (All IsKnown) (sym none) (All-nil IsKnown))) named
    (header-last _ _ none ∙ c.loop-name.invariant.text)
