-- What a printed cookie is read as, whatever its path, its domain and its expiry hold (RFC 6265 5.2).
use Rattle.std.proofs.Common.{◌≡◌, true, false, ℕ, ℤ, pos, List, [], ◌∷◌, ◌++◌, Some, None, option_map, refl, sym, ap, subst, ◌∙◌}
use Rattle.std.proofs.lemmas.Option.{none-some, same_Some}
use Rattle.cookie_core.specs.Attributes.{IsPair, IsLastSet, SetsAttributes}
use Rattle.cookie_core.specs.CookieOf.{record_in, cookie_of}
use Rattle.cookie_core.specs.Normal.{whole_age, IsNamed, IsUncut, IsExpiryReadBack}
use Rattle.cookie_core.specs.Escapes.{escape}
use Rattle.cookie_core.specs.Record.{Record, IsCookie}
use Rattle.cookie_core.specs.Text.{ShownAttribute, Flag, Valued, shown_text, shown_texts, scope_attributes, place_attributes, lifetime_attributes, lifetime_text, attributes_text, cookie_text}
use Rattle.cookie_core.specs.Walk.{before_rest}
use Rattle.cookie_core.specs.declared.attributes.Key.TheVariants as key
use Rattle.cookie_core.specs.declared.parse_error.ParseError.TheVariants as refusal
use Rattle.cookie_core.proofs.CookieOfLemmas.{cookie_of-Reads, cookie_of-refused, last_set-IsLastSet, SetsAttributes-record_in}
use Rattle.cookie_core.proofs.ExpiryTextLemmas.{read_expiry-is}
use Rattle.cookie_core.proofs.NormalFormLemmas.{escaped_pair, escaped_pair-apart, escaped_pair-pair, cookie_text-pair, Reads-printed, uncut_form}
use Rattle.cookie_core.proofs.PartLemmas.{max_age_part, expires_part, read_record}
use Rattle.cookie_core.proofs.ReadingLemmas.{IsLastSet-behind, IsLastSet-or, Reads-empty_name}
use Rattle.cookie_core.proofs.ShownLemmas.{shown_texts-all}
use Rattle.cookie_core.proofs.PieceWalkLemmas.{HasPieces, HasPieces-nil, HasPieces-append, HasPieces-flag, HasPieces-attribute, Any}

any_append : (a b : List ℕ) → HasPieces Any a → HasPieces Any b → HasPieces Any (a ++ b)
any_append a b h k = HasPieces-append Any Any Any (λ ps qs p q. tt) a b h k

any_shown : (attributes : List ShownAttribute) → HasPieces Any (shown_texts attributes)
any_shown = shown_texts-all (HasPieces Any) (HasPieces-nil Any tt) any_append by
  where
    by : (attribute : ShownAttribute) → HasPieces Any (shown_text attribute)
    by (Flag word is_shown) = HasPieces-flag word is_shown
    by (Valued label value) = HasPieces-attribute label value

-- the attributes of any cookie are pieces
any_pieces : (r : Record) → HasPieces Any (attributes_text r)
any_pieces r = any_append _ _ (any_shown (scope_attributes r)) (any_append _ _ (any_shown (place_attributes r)) (any_shown (lifetime_attributes r)))

-- what holds of the last pieces holds of all
HasPieces-behind : (P : List (List ℕ) → Type 0) → ((ps qs : List (List ℕ)) → P qs → P (ps ++ qs)) → (r : Record) → HasPieces P (lifetime_text r) → HasPieces P (attributes_text r)
HasPieces-behind P f r h =
    let more = λ (a b : List ℕ) (k : HasPieces Any a) (l : HasPieces P b). HasPieces-append Any P P (λ ps qs p q. f ps qs q) a b k l in
    more _ _ (any_shown (scope_attributes r)) (more _ _ (any_shown (place_attributes r)) h)

-- the pieces of the age and the expiry set the age, where it is set
age_pieces : (r : Record) (age : ℤ) → IsNamed r → r.max_age ≡ Some age → HasPieces (λ ps. IsLastSet key.MaxAge ps (Some (whole_age age))) (lifetime_text r)
age_pieces r age h e =
    HasPieces-append (λ ps. SetsAttributes ps _) (λ ps. SetsAttributes ps _) (λ ps. IsLastSet key.MaxAge ps (Some (whole_age age)))
    (λ ps qs p q. IsLastSet-or key.MaxAge ps qs (Some (whole_age age)) None (subst (λ a. IsLastSet key.MaxAge ps (option_map whole_age a)) e (p.each key.MaxAge)) (q.each key.MaxAge))
    _ _ (max_age_part r.max_age h.cookie.max_age) (expires_part r.expires)

-- what the printed text is read as, by its pieces
by_pieces : (P : List (List ℕ) → Type 0) (r : Record) → IsNamed r → (h : HasPieces P (attributes_text r)) → cookie_of true (cookie_text true false r) ≡ Some (record_in r.name r.value h.pieces)
by_pieces P r named h =
    let n : Record = record_in r.name r.value h.pieces in
    (cookie_of-Reads true (cookie_text true false r) n).1 (Reads-printed r n named refl refl (record { pieces = h.pieces; text = h.text; apart = h.apart; holds = SetsAttributes-record_in r.name r.value h.pieces }))

-- the name and the value are kept, whatever the path, the domain and the expiry hold
pub text_outcome : (r : Record) → IsNamed r → (n : Record) × (cookie_of true (cookie_text true false r) ≡ Some n) × (n.name ≡ r.name) × (n.value ≡ r.value)
text_outcome r named =
    let h = any_pieces r in
    (record_in r.name r.value h.pieces, by_pieces Any r named h, refl, refl)

-- and a cookie without a name is refused
pub nameless_outcome : (r : Record) → r.name ≡ [] → cookie_of true (cookie_text true false r) ≡ None
unfolding escape
nameless_outcome r none =
    let h = any_pieces r in
    let pair : IsPair (escaped_pair r) [] (escape r.value) = subst (λ n. IsPair (escaped_pair r) n (escape r.value)) (ap escape none) (escaped_pair-pair r) in
    cookie_of-refused true (cookie_text true false r) refusal.EmptyName
    (Reads-empty_name (cookie_text true false r) (escaped_pair r) (escape r.value) (before_rest h.pieces None)
    (sym (cookie_text-pair r) ∙ ap (λ t. escaped_pair r ++ t) h.text) (escaped_pair-apart r) pair true)

-- a text of a cookie that is read has the cookie's name
pub same_name : (c r : Record) → IsCookie c → cookie_of true (cookie_text true false c) ≡ Some r → r.name ≡ c.name
same_name c r is e = by c.name refl
  where
    by : (n : List ℕ) → c.name ≡ n → r.name ≡ c.name
    by [] f = absurd (none-some r (sym (nameless_outcome c f) ∙ e))
    by (b ∷ bs) f =
        let outcome = text_outcome c (record { cookie = is; name = λ empty. let never : b ∷ bs ≡ [] = sym f ∙ empty in cc }) in
        ap (λ (x : Record). x.name) (same_Some _ _ (sym e ∙ outcome.1)) ∙ outcome.2

-- and so is the age, in whole seconds, where it is set: the printed age comes behind the path and the domain, and the
-- last one counts
pub age_outcome : (r : Record) (age : ℤ) → IsNamed r → r.max_age ≡ Some age → (n : Record) × (cookie_of true (cookie_text true false r) ≡ Some n) × (n.name ≡ r.name) × (n.value ≡ r.value) × (n.max_age ≡ Some (whole_age age))
age_outcome r age named e =
    let P : List (List ℕ) → Type 0 = λ ps. IsLastSet key.MaxAge ps (Some (whole_age age)) in
    let h : HasPieces P (attributes_text r) = HasPieces-behind P (λ ps qs q. IsLastSet-behind key.MaxAge ps qs (whole_age age) q) r (age_pieces r age named e) in
    (record_in r.name r.value h.pieces, by_pieces P r named h, refl, refl, last_set-IsLastSet key.MaxAge h.pieces (Some (whole_age age)) h.holds)

-- a removal, whose age is zero
pub removal_outcome : (r : Record) → IsNamed r → r.max_age ≡ Some (pos 0) → (n : Record) × (cookie_of true (cookie_text true false r) ≡ Some n) × (n.name ≡ r.name) × (n.value ≡ r.value) × (n.max_age ≡ Some (pos 0))
removal_outcome r named e = age_outcome r (pos 0) named e

-- where the path and the domain hold no `;`, the age is kept, in whole seconds, and the expiry, but for short years,
-- which are never earlier
pub live_outcome : (r : Record) → IsNamed r → IsUncut r → (n : Record) × (cookie_of true (cookie_text true false r) ≡ Some n) × (n.name ≡ r.name) × (n.value ≡ r.value) × (n.max_age ≡ option_map whole_age r.max_age) × IsExpiryReadBack r.expires n.expires
live_outcome r named uncut =
    (read_record r, (cookie_of-Reads true (cookie_text true false r) (read_record r)).1 (uncut_form r named uncut), refl, refl, refl, read_expiry-is r.expires)
