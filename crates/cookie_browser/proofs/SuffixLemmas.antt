-- Rules that are kept as three sets of texts.
use Rattle.std.proofs.Common.{◌≡◌, ◌≢◌, ◌<◌, ℕ, length, arith, not, ◌||◌, Bool, true, false, List, [], ◌∷◌, ◌++◌, map, Option, Some, None, option_map, String, bytes_eq, true≢false, refl, sym, ap, codes, eqb, drop, ◌∙◌, inl, inr, ◌⊎◌, IsPermutation, IsUtf8, MatchBool, subst}
use Rattle.std.proofs.lemmas.Slice.Eq.{bytes_eq-Decides}
use Rattle.std.proofs.lemmas.Str.{IsUtf8-string_bytes}
use Rattle.std.specs.List.{cons_option, filter_map, list_any, starts_with}
use Rattle.std.specs.String.{string_bytes}
use Rattle.std.proofs.lemmas.Bool.{cond-true, cond-false, not-false, or_cases}
use Rattle.std.specs.Cmp.Lexicographic.{unequal}
use Rattle.std.proofs.lemmas.Cmp.{nat_list_eq_equiv}
use Rattle.std.proofs.lemmas.List.Folds.{list_any-append}
use Rattle.std.proofs.lemmas.List.Sorted.{list_any-IsPermutation}
use Rattle.cookie_browser.specs.Bytes.{cut}
use Rattle.cookie_browser.specs.Request.{is_in_domain}
use Rattle.cookie_browser.specs.Suffixes.{Rule, Plain, Wild, Except, HasSameElements, has_parent, is_covered, is_excepted, is_exception, is_one_label}
use Rattle.cookie_browser.specs.SuffixCode.{rules_view, texts_of}
use Rattle.cookie_browser.specs.SuffixList.{canonical, rule_of, rule_of_line, rules_of}
use Rattle.cookie_browser.proofs.AnyLemmas.{any-map, any-never, any-same, any-or, holds_in, any-cons_option}
use Rattle.cookie_browser.proofs.CutLemmas.{pieces_at, slice_split-cut}
use Rattle.cookie_browser.proofs.DomainLemmas.{rest_in, is_in_domain-cut}

-- ---- a look-up

any-view : (test : Rule → Bool) (plain wild except : List (List ℕ)) → list_any test (rules_view plain wild except) ≡ (list_any (λ t. test (Plain t)) plain || (list_any (λ t. test (Wild t)) wild || list_any (λ t. test (Except t)) except))
any-view test plain wild except =
    list_any-append test (map Plain plain) (map Wild wild ++ map Except except)
    ∙ ap (λ b. list_any test (map Plain plain) || b) (list_any-append test (map Wild wild) (map Except except))
    ∙ ap (λ b. b || (list_any test (map Wild wild) || list_any test (map Except except))) (any-map test Plain plain)
    ∙ ap (λ b. list_any (λ t. test (Plain t)) plain || (b || list_any test (map Except except))) (any-map test Wild wild)
    ∙ ap (λ b. list_any (λ t. test (Plain t)) plain || (list_any (λ t. test (Wild t)) wild || b)) (any-map test Except except)

pub any-excepted : (domain : List ℕ) (plain wild except : List (List ℕ)) → list_any (is_excepted domain) (rules_view plain wild except) ≡ list_any (is_in_domain domain false) except
any-excepted domain plain wild except =
    any-view (is_excepted domain) plain wild except
    ∙ ap (λ b. b || (list_any (λ t. false) wild || list_any (is_in_domain domain false) except)) (any-never plain)
    ∙ ap (λ b. b || list_any (is_in_domain domain false) except) (any-never wild)

pub any-exception : (domain : List ℕ) (plain wild except : List (List ℕ)) → list_any (is_exception domain) (rules_view plain wild except) ≡ list_any (bytes_eq domain) except
any-exception domain plain wild except =
    any-view (is_exception domain) plain wild except
    ∙ ap (λ b. b || (list_any (λ t. false) wild || list_any (bytes_eq domain) except)) (any-never plain)
    ∙ ap (λ b. b || list_any (bytes_eq domain) except) (any-never wild)

or_false : (a : Bool) → (a || false) ≡ a
or_false true = refl
or_false false = refl

any-covered : (domain : List ℕ) (plain wild except : List (List ℕ)) → list_any (is_covered domain) (rules_view plain wild except) ≡ (list_any (bytes_eq domain) plain || list_any (λ text. has_parent text (cut 46 domain).1) wild)
any-covered domain plain wild except =
    let parents = list_any (λ text. has_parent text (cut 46 domain).1) wild in
    any-view (is_covered domain) plain wild except
    ∙ ap (λ b. list_any (bytes_eq domain) plain || (parents || b)) (any-never except)
    ∙ ap (λ b. list_any (bytes_eq domain) plain || b) (or_false parents)

-- the same, once it is known whether a plain rule is the domain
pub covered-or : (domain : List ℕ) (plain wild except : List (List ℕ)) {is_plain : Bool} → list_any (bytes_eq domain) plain ≡ is_plain → (is_plain || list_any (λ text. has_parent text (cut 46 domain).1) wild) ≡ list_any (is_covered domain) (rules_view plain wild except)
covered-or domain plain wild except known =
    sym (any-covered domain plain wild except ∙ ap (λ b. b || list_any (λ text. has_parent text (cut 46 domain).1) wild) known)

-- a text of more than one label, once it is known whether a plain rule is the text
pub listed-or : (domain label parent : List ℕ) (plain wild except : List (List ℕ)) {is_plain : Bool} → cut 46 domain ≡ (label, Some parent) → length label < length domain → list_any (bytes_eq domain) plain ≡ is_plain → (is_plain || list_any (bytes_eq parent) wild) ≡ (is_one_label domain || list_any (is_covered domain) (rules_view plain wild except))
listed-or domain label parent plain wild except {is_plain} at shorter known =
    let differs : length label ≢ length domain = λ e. omega arith in
    ap (λ k. is_plain || list_any (λ text. has_parent text k.1) wild) (sym at)
    ∙ covered-or domain plain wild except known
    ∙ sym (ap (λ b. b || list_any (is_covered domain) (rules_view plain wild except)) (ap (λ k. bytes_eq k.0 domain) at ∙ unequal eqb label domain differs))

-- a text of one label
pub one_label-none : (domain : List ℕ) → cut 46 domain ≡ (domain, None) → is_one_label domain ≡ true
one_label-none domain none = ap (λ k. bytes_eq k.0 domain) none ∙ nat_list_eq_equiv.refl domain

-- one label is taken off
pub any-cut : (domain : List ℕ) (texts : List (List ℕ)) → list_any (is_in_domain domain false) texts ≡ (list_any (bytes_eq domain) texts || list_any (rest_in (cut 46 domain).1) texts)
any-cut domain texts =
    any-same (is_in_domain domain false) (λ t. bytes_eq domain t || rest_in (cut 46 domain).1 t) (is_in_domain-cut domain) texts
    ∙ any-or (bytes_eq domain) (rest_in (cut 46 domain).1) texts

bytes_same : (xs ys : List ℕ) → bytes_eq xs ys ≡ true → xs ≡ ys
bytes_same xs ys e = (bytes_eq-Decides xs ys).0 e

-- a text that isn't UTF-8 is no key
pub none-invalid : {Y : Type 0} (text : List ℕ) (keys : List (String Y)) → ¬ (IsUtf8 text) → list_any (bytes_eq text) (texts_of keys) ≡ false
none-invalid text [] invalid = refl
none-invalid text (key ∷ keys) invalid = by (bytes_eq text (string_bytes key)) refl (none-invalid text keys invalid)
  where
    by : (b : Bool) → bytes_eq text (string_bytes key) ≡ b → list_any (bytes_eq text) (texts_of keys) ≡ false → (bytes_eq text (string_bytes key) || list_any (bytes_eq text) (texts_of keys)) ≡ false
    by true same none = absurd (invalid (subst IsUtf8 (sym (bytes_same text (string_bytes key) same)) (IsUtf8-string_bytes key)))
    by false other none = ap (λ b. b || list_any (bytes_eq text) (texts_of keys)) other ∙ none

-- ---- a text is added

or_twice : (a b : Bool) → (a || b) ≡ (a || (a || b))
or_twice true b = refl
or_twice false b = refl

or_later : (a b c : Bool) → c ≡ (a || c) → (b || c) ≡ (a || (b || c))
or_later true true c e = refl
or_later true false c e = e
or_later false b c e = refl

-- one more copy of an element changes no test
any-again : (test : List ℕ → Bool) (text : List ℕ) (texts : List (List ℕ)) → list_any (bytes_eq text) texts ≡ true → list_any test texts ≡ (test text || list_any test texts)
any-again test text [] found = absurd (true≢false (sym found))
any-again test text (first ∷ texts) found = by (or_cases (bytes_eq text first) (list_any (bytes_eq text) texts) found) (any-again test text texts)
  where
    by : (bytes_eq text first ≡ true) ⊎ (list_any (bytes_eq text) texts ≡ true) → (list_any (bytes_eq text) texts ≡ true → list_any test texts ≡ (test text || list_any test texts)) → (test first || list_any test texts) ≡ (test text || (test first || list_any test texts))
    by (inl same) again =
        ap (λ t. test t || list_any test texts) (sym (bytes_same text first same)) ∙ or_twice (test text) (list_any test texts)
        ∙ ap (λ t. test text || (test t || list_any test texts)) (bytes_same text first same)
    by (inr later) again = or_later (test text) (test first) (list_any test texts) (again later)

-- a key that is put into a set
pub put-same : {Y : Type 0} (key : String Y) (olds news : List (String Y)) (added : Bool) → added ≡ not (list_any (λ k. bytes_eq (string_bytes key) (string_bytes k)) olds) → MatchBool added (IsPermutation (key ∷ olds) news) (news ≡ olds) → HasSameElements (texts_of news) (string_bytes key ∷ texts_of olds)
put-same key olds news true new put test =
    any-map test string_bytes news ∙ sym (list_any-IsPermutation (λ k. test (string_bytes k)) (key ∷ olds) news put)
    ∙ ap (λ b. test (string_bytes key) || b) (sym (any-map test string_bytes olds))
put-same key olds news false new put test =
    let found : list_any (bytes_eq (string_bytes key)) (texts_of olds) ≡ true =
    any-map (bytes_eq (string_bytes key)) string_bytes olds ∙ not-false (list_any (λ k. bytes_eq (string_bytes key) (string_bytes k)) olds) (sym new) in
    ap (λ ks. list_any test (texts_of ks)) put ∙ any-again test (string_bytes key) (texts_of olds) found

-- ---- a rule is added

or_first : (a p q : Bool) → ((a || p) || q) ≡ (a || (p || q))
or_first true p q = refl
or_first false p q = refl

or_second : (a p w e : Bool) → (p || ((a || w) || e)) ≡ (a || (p || (w || e)))
or_second true true w e = refl
or_second true false w e = refl
or_second false p w e = refl

or_third : (a p w e : Bool) → (p || (w || (a || e))) ≡ (a || (p || (w || e)))
or_third true true w e = refl
or_third true false true e = refl
or_third true false false e = refl
or_third false p w e = refl

holds-map : {X Y : Type 0} (test : Y → Bool) (f : X → Y) (o : Option X) → holds_in (λ x. test (f x)) o ≡ holds_in test (option_map f o)
holds-map test f None = refl
holds-map test f (Some x) = refl

pub view-plain : (plain wild except : List (List ℕ)) (more : Option (List ℕ)) (new : List (List ℕ)) → HasSameElements new (cons_option more plain) → HasSameElements (rules_view new wild except) (cons_option (option_map Plain more) (rules_view plain wild except))
view-plain plain wild except more new same test =
    let p = list_any (λ t. test (Plain t)) plain in
    let w = list_any (λ t. test (Wild t)) wild in
    let e = list_any (λ t. test (Except t)) except in
    any-view test new wild except
    ∙ ap (λ b. b || (w || e)) (same (λ t. test (Plain t)) ∙ any-cons_option (λ t. test (Plain t)) more plain ∙ ap (λ b. b || p) (holds-map test Plain more))
    ∙ or_first (holds_in test (option_map Plain more)) p (w || e)
    ∙ ap (λ b. holds_in test (option_map Plain more) || b) (sym (any-view test plain wild except))
    ∙ sym (any-cons_option test (option_map Plain more) (rules_view plain wild except))

pub view-wild : (plain wild except : List (List ℕ)) (more : Option (List ℕ)) (new : List (List ℕ)) → HasSameElements new (cons_option more wild) → HasSameElements (rules_view plain new except) (cons_option (option_map Wild more) (rules_view plain wild except))
view-wild plain wild except more new same test =
    let p = list_any (λ t. test (Plain t)) plain in
    let w = list_any (λ t. test (Wild t)) wild in
    let e = list_any (λ t. test (Except t)) except in
    any-view test plain new except
    ∙ ap (λ b. p || (b || e)) (same (λ t. test (Wild t)) ∙ any-cons_option (λ t. test (Wild t)) more wild ∙ ap (λ b. b || w) (holds-map test Wild more))
    ∙ or_second (holds_in test (option_map Wild more)) p w e
    ∙ ap (λ b. holds_in test (option_map Wild more) || b) (sym (any-view test plain wild except))
    ∙ sym (any-cons_option test (option_map Wild more) (rules_view plain wild except))

pub view-except : (plain wild except : List (List ℕ)) (more : Option (List ℕ)) (new : List (List ℕ)) → HasSameElements new (cons_option more except) → HasSameElements (rules_view plain wild new) (cons_option (option_map Except more) (rules_view plain wild except))
view-except plain wild except more new same test =
    let p = list_any (λ t. test (Plain t)) plain in
    let w = list_any (λ t. test (Wild t)) wild in
    let e = list_any (λ t. test (Except t)) except in
    any-view test plain wild new
    ∙ ap (λ b. p || (w || b)) (same (λ t. test (Except t)) ∙ any-cons_option (λ t. test (Except t)) more except ∙ ap (λ b. b || e) (holds-map test Except more))
    ∙ or_third (holds_in test (option_map Except more)) p w e
    ∙ ap (λ b. holds_in test (option_map Except more) || b) (sym (any-view test plain wild except))
    ∙ sym (any-cons_option test (option_map Except more) (rules_view plain wild except))

-- the text is empty or a comment
abbrev is_no_rule : List ℕ → Bool
is_no_rule text = bytes_eq text [] || starts_with eqb text (codes "//")

pub no-rule : (text : List ℕ) → is_no_rule text ≡ true → rule_of text ≡ None
unfolding rule_of
no-rule text none = cond-true _ _ _ none

wild-rule : (text : List ℕ) → is_no_rule text ≡ false → starts_with eqb text (codes "*.") ≡ true → rule_of text ≡ option_map Wild (canonical (drop 2 text))
unfolding rule_of
wild-rule text some wild = cond-false _ _ _ some ∙ cond-true _ _ _ wild

except-rule : (text : List ℕ) → is_no_rule text ≡ false → starts_with eqb text (codes "*.") ≡ false → starts_with eqb text (codes "!") ≡ true → rule_of text ≡ option_map Except (canonical (drop 1 text))
unfolding rule_of
except-rule text some tame except = cond-false _ _ _ some ∙ cond-false _ _ _ tame ∙ cond-true _ _ _ except

plain-rule : (text : List ℕ) → is_no_rule text ≡ false → starts_with eqb text (codes "*.") ≡ false → starts_with eqb text (codes "!") ≡ false → rule_of text ≡ option_map Plain (canonical text)
unfolding rule_of
plain-rule text some tame plain = cond-false _ _ _ some ∙ cond-false _ _ _ tame ∙ cond-false _ _ _ plain

-- the rule is the one that was added, and the rules are the ones that were there
same-rules : (rule made : Option Rule) (rules view new : List Rule) → rule ≡ made → view ≡ rules → HasSameElements new (cons_option made view) → HasSameElements new (cons_option rule rules)
same-rules rule made rules view new is there same test =
    same test ∙ ap (λ o. list_any test (cons_option o view)) (sym is) ∙ ap (λ rs. list_any test (cons_option rule rs)) there

pub wild-added : (text : List ℕ) (rules : List Rule) (plain wild except new : List (List ℕ)) → is_no_rule text ≡ false → starts_with eqb text (codes "*.") ≡ true → rules_view plain wild except ≡ rules → HasSameElements new (cons_option (canonical (drop 2 text)) wild) → HasSameElements (rules_view plain new except) (cons_option (rule_of text) rules)
wild-added text rules plain wild except new some is_wild there same =
    same-rules (rule_of text) (option_map Wild (canonical (drop 2 text))) rules (rules_view plain wild except) (rules_view plain new except)
    (wild-rule text some is_wild) there (view-wild plain wild except (canonical (drop 2 text)) new same)

pub except-added : (text : List ℕ) (rules : List Rule) (plain wild except new : List (List ℕ)) → is_no_rule text ≡ false → starts_with eqb text (codes "*.") ≡ false → starts_with eqb text (codes "!") ≡ true → rules_view plain wild except ≡ rules → HasSameElements new (cons_option (canonical (drop 1 text)) except) → HasSameElements (rules_view plain wild new) (cons_option (rule_of text) rules)
except-added text rules plain wild except new some tame is_except there same =
    same-rules (rule_of text) (option_map Except (canonical (drop 1 text))) rules (rules_view plain wild except) (rules_view plain wild new)
    (except-rule text some tame is_except) there (view-except plain wild except (canonical (drop 1 text)) new same)

pub plain-added : (text : List ℕ) (rules : List Rule) (plain wild except new : List (List ℕ)) → is_no_rule text ≡ false → starts_with eqb text (codes "*.") ≡ false → starts_with eqb text (codes "!") ≡ false → rules_view plain wild except ≡ rules → HasSameElements new (cons_option (canonical text) plain) → HasSameElements (rules_view new wild except) (cons_option (rule_of text) rules)
plain-added text rules plain wild except new some tame is_plain there same =
    same-rules (rule_of text) (option_map Plain (canonical text)) rules (rules_view plain wild except) (rules_view new wild except)
    (plain-rule text some tame is_plain) there (view-plain plain wild except (canonical text) new same)

-- ---- the lines of a list

-- the rules of the lines that are left
abbrev pub rules_after : Option (List ℕ) → List Rule
rules_after None = []
rules_after (Some text) = rules_of text

pub rules-cut : (text : List ℕ) → rules_of text ≡ cons_option (rule_of_line (cut 10 text).0) (rules_after (cut 10 text).1)
rules-cut text = ap (filter_map rule_of_line) (slice_split-cut 10 text) ∙ ap (cons_option (rule_of_line (cut 10 text).0)) (left (cut 10 text).1)
  where
    left : (o : Option (List ℕ)) → filter_map rule_of_line (pieces_at 10 o) ≡ rules_after o
    left None = refl
    left (Some t) = refl

or_moved : (a s r : Bool) → ((a || s) || r) ≡ (s || (a || r))
or_moved true true r = refl
or_moved true false r = refl
or_moved false s r = refl

-- a rule goes over from the lines that are left to the rules that were read
pub moved : (test : Rule → Bool) (rule : Option Rule) (old new left : List Rule) → HasSameElements new (cons_option rule old) → (list_any test new || list_any test left) ≡ (list_any test old || list_any test (cons_option rule left))
moved test rule old new left same =
    ap (λ b. b || list_any test left) (same test ∙ any-cons_option test rule old)
    ∙ or_moved (holds_in test rule) (list_any test old) (list_any test left)
    ∙ ap (λ b. list_any test old || b) (sym (any-cons_option test rule left))
