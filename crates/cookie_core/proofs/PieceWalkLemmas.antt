-- Texts that are made of pieces, each behind a `;`.
use Rattle.std.proofs.Common.{◌≡◌, ℕ, List, [], ◌∷◌, ◌++◌, Bool, true, false, Option, Some, None, Ok, refl, sym, ap, ◌∙◌, append_assoc}
use Rattle.std.proofs.lemmas.List.{append-nil}
use Rattle.std.proofs.lemmas.List.Elements.{All-append, All-cons, All-nil}
use Rattle.std.specs.List.{All}
use Rattle.cookie_core.specs.Attributes.{IsPair, SetsAttributes}
use Rattle.cookie_core.specs.Pieces.{Lacks}
use Rattle.cookie_core.specs.Reads.{IsDecoded, Reads}
use Rattle.cookie_core.specs.Record.{Record}
use Rattle.cookie_core.specs.Settings.{either}
use Rattle.cookie_core.specs.Text.{flag_text, attribute_text}
use Rattle.cookie_core.specs.Walk.{behind, before_rest}
use Rattle.cookie_core.proofs.ReadingLemmas.{first_piece, pieces_of, SetsAttributes-or}
use mathlib.Core.Logic.{◌≢◌}

-- the texts, each behind a `;`
abbrev pub tails : List (List ℕ) → List ℕ
tails ps = behind (before_rest ps None)

pub tails-append : (ps qs : List (List ℕ)) → tails (ps ++ qs) ≡ tails ps ++ tails qs
tails-append [] qs = refl
tails-append (p ∷ ps) qs = ap (λ t. 59 ∷ (p ++ t)) (tails-append ps qs) ∙ ap (λ t. 59 ∷ t) (sym (append_assoc p (tails ps) (tails qs)))

-- the text is pieces, each behind a `;`, of which P holds
pub record HasPieces (P : List (List ℕ) → Type 0) (t : List ℕ) : Type 0 where
  pub pieces : List (List ℕ)
  pub text : t ≡ tails pieces
  pub apart : All (Lacks 59) pieces
  pub holds : P pieces

pub HasPieces-nil : (P : List (List ℕ) → Type 0) → P [] → HasPieces P []
HasPieces-nil P h = record { pieces = []; text = refl; apart = All-nil (Lacks 59); holds = h }

pub HasPieces-one : (P : List (List ℕ) → Type 0) (q : List ℕ) → Lacks 59 q → P (q ∷ []) → HasPieces P (59 ∷ q)
HasPieces-one P q l h =
    record {
      pieces = q ∷ [];
      text = ap (λ t. 59 ∷ t) (sym (append-nil q));
      apart = All-cons (Lacks 59) q [] l (All-nil (Lacks 59));
      holds = h;
    }

pub HasPieces-append : (P Q R : List (List ℕ) → Type 0) → ((ps qs : List (List ℕ)) → P ps → Q qs → R (ps ++ qs)) → (a b : List ℕ) → HasPieces P a → HasPieces Q b → HasPieces R (a ++ b)
HasPieces-append P Q R f a b h k =
    record {
      pieces = h.pieces ++ k.pieces;
      text = rw (tails-append h.pieces k.pieces, sym h.text, sym k.text) refl;
      apart = All-append (Lacks 59) h.pieces k.pieces h.apart k.apart;
      holds = f h.pieces k.pieces h.holds k.holds;
    }

-- the text is pieces that set the attributes of r
abbrev pub IsWalk : List ℕ → Record → Type 0
IsWalk t r = HasPieces (λ ps. SetsAttributes ps r) t

pub IsWalk-append : (a b : List ℕ) (r r' : Record) → IsWalk a r → IsWalk b r' → IsWalk (a ++ b) (either r' r)
IsWalk-append a b r r' h k =
    HasPieces-append (λ ps. SetsAttributes ps r) (λ ps. SetsAttributes ps r') (λ ps. SetsAttributes ps (either r' r)) (λ ps qs p q. SetsAttributes-or ps qs r r' p q) a b h k

-- any pieces
abbrev pub Any : List (List ℕ) → Type 0
Any ps = Unit {0}

HasPieces-semicolon : (t : List ℕ) → HasPieces Any (59 ∷ t)
HasPieces-semicolon t =
    let (p, ps, whole, first, later) = pieces_of t in
    record { pieces = p ∷ ps; text = ap (λ x. 59 ∷ x) whole; apart = All-cons (Lacks 59) p ps first later; holds = tt }

pub HasPieces-flag : (k : List ℕ) (b : Bool) → HasPieces Any (flag_text (59 ∷ k) b)
HasPieces-flag k true = HasPieces-semicolon k
HasPieces-flag k false = HasPieces-nil Any tt

pub HasPieces-attribute : (k : List ℕ) (o : Option (List ℕ)) → HasPieces Any (attribute_text (59 ∷ k) o)
HasPieces-attribute k (Some v) = HasPieces-semicolon (k ++ v)
HasPieces-attribute k None = HasPieces-nil Any tt

-- a pair, and pieces behind it, are read as a record
pub Reads-walk : (decode : Bool) (p m v u : List ℕ) (n : Record) → Lacks 59 p → IsPair p m v → m ≢ [] → IsDecoded decode m n.name → IsDecoded decode v n.value → IsWalk u n → Reads decode (p ++ u) (Ok n)
Reads-walk decode p m v u n apart pair some name value w =
    (p, w.pieces, first_piece (p ++ u) p (before_rest w.pieces None) (ap (λ x. p ++ x) w.text) apart w.pieces refl w.apart, (m, v, pair, some, name, value, w.holds))
