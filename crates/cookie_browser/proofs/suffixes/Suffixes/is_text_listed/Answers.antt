use Rattle.std.proofs.Common.{◌≡◌, ◌<◌, ◌+◌, ◌||◌, bytes_eq, get_or, length, take, drop, rules, sym, ap, ◌∙◌, arith}
use Rattle.std.specs.List.{list_any}
use Rattle.std.specs.String.{string_bytes}
use Rattle.std.proofs.lemmas.List.{length-take-le}
use Rattle.std.proofs.lemmas.Str.{IsCharBoundary-after_ascii}
use Rattle.cookie_browser.specs.Suffixes.{is_covered, is_one_label}
use Rattle.cookie_browser.specs.SuffixCode.{texts_of}
use Rattle.cookie_browser.proofs.AnyLemmas.{any-map}
use Rattle.cookie_browser.proofs.CutLemmas.{cut-at_first, cut-nowhere}
use Rattle.cookie_browser.proofs.SuffixLemmas.{listed-or, one_label-none}
use Rattle.cookie_browser.proofs.suffixes.Suffixes.is_text_listed.Goals as goal

pub range_from-requires : goal.range_from-requires
range_from-requires c = λ _.
    let domain = c.args.domain.now in
    let inside : c.in-Some.dot < length domain = search rules in
    let here : get_or domain c.in-Some.dot 0 ≡ 46 = search rules in
    IsCharBoundary-after_ascii domain c.in-Some.dot c.utf8.domain inside (omega arith)

pub returns-then-contains : goal.returns-then-contains
returns-then-contains c =
    let domain = c.args.domain.now in
    let dot = c.in-Some.dot in
    let sets = c.self.inside in
    let inside : dot < length domain = search rules in
    let at = cut-at_first 46 domain dot inside (search rules) (search rules) in
    c.if-contains.true
    ∙ listed-or domain (take dot domain) (drop (dot + 1) domain) (texts_of sets.plain.keys) (texts_of sets.wild.keys) (texts_of sets.except.keys) at (omega (arith, length-take-le dot domain (omega arith)))
    (any-map (bytes_eq domain) string_bytes sets.plain.keys ∙ sym c.contains.ensures ∙ c.if-contains.true)
    ∙ ap (λ rules. is_one_label domain || list_any (is_covered domain) rules) c.self.view_is

pub returns-else-contains : goal.returns-else-contains
returns-else-contains c =
    let domain = c.args.domain.now in
    let dot = c.in-Some.dot in
    let sets = c.self.inside in
    let inside : dot < length domain = search rules in
    let at = cut-at_first 46 domain dot inside (search rules) (search rules) in
    c.contains-else-contains.ensures
    ∙ sym (any-map (bytes_eq c.range_from.result.now) string_bytes sets.wild.keys)
    ∙ ap (λ parent. list_any (bytes_eq parent) (texts_of sets.wild.keys)) c.range_from.ensures.value
    ∙ listed-or domain (take dot domain) (drop (dot + 1) domain) (texts_of sets.plain.keys) (texts_of sets.wild.keys) (texts_of sets.except.keys) at (omega (arith, length-take-le dot domain (omega arith)))
    (any-map (bytes_eq domain) string_bytes sets.plain.keys ∙ sym c.contains.ensures ∙ c.if-contains.false)
    ∙ ap (λ rules. is_one_label domain || list_any (is_covered domain) rules) c.self.view_is

pub returns-in-None : goal.returns-in-None
returns-in-None c =
    let domain = c.args.domain.now in
    let none = cut-nowhere 46 domain (search rules) in
    sym (ap (λ b. b || list_any (is_covered domain) c.args.self.now) (one_label-none domain none))
