-- The spans and the numbers of a cookie that was read.
use Rattle.std.proofs.Common.{◌≡◌, ℕ, ◌+◌, ◌-◌, ◌≤◌, List, length, take, drop, Option, Some, None, option_map, is_some, refl, ap, arith}
use Rattle.cookie.specs.Layout.{IsLayoutIn}
use Rattle.cookie.specs.Pieces.{offset_of}
use Rattle.cookie.specs.Spans.{StandsIn, span_text}
use Rattle.cookie.specs.declared.Layout.{Layout}
use Rattle.cookie.specs.declared.Span.{Span as Part}
use Rattle.cookie_c.specs.Spans.{IsAt, IsBetween, span_after}
use Rattle.cookie_c.specs.declared.span.Span.{Span}

pub span_is_at : (text : List ℕ) (p : Part) (span : Span) → span ≡ span_after 0 p → StandsIn text p
    → IsAt text span (span_text text p)
span_is_at text p span e (forward, _, end) =
    let last : p.end ≤ length text = end.0 in
    let zero : 0 + p.start ≡ p.start = omega arith in
    rw e (omega arith, ap (λ n. take (p.end - p.start) (drop n text)) zero)

span_is_between : (text : List ℕ) (first last : ℕ) (p : Part) (span : Span) → span ≡ span_after 0 p → StandsIn text p
    → first ≤ p.start → p.end ≤ last → IsBetween text first last span (span_text text p)
span_is_between text first last p span e stands begins ends =
    let forward : p.start ≤ p.end = stands.0 in
    record {
      bytes = span_is_at text p span e stands;
      begins = rw e (omega arith);
      ends = rw e (omega arith);
    }

pub name_is_between : (text : List ℕ) (layout : Layout) (span : Span) → span ≡ span_after 0 layout.name → IsLayoutIn text layout
    → IsBetween text 0 (offset_of 61 text) span (span_text text layout.name)
name_is_between text layout span e is = span_is_between text 0 (offset_of 61 text) layout.name span e is.name (omega arith) is.before

pub value_is_between : (text : List ℕ) (layout : Layout) (span : Span) → span ≡ span_after 0 layout.value → IsLayoutIn text layout
    → IsBetween text (offset_of 61 text + 1) (offset_of 59 text) span (span_text text layout.value)
value_is_between text layout span e is =
    span_is_between text (offset_of 61 text + 1) (offset_of 59 text) layout.value span e is.value (omega (arith, is.after)) is.within

-- whether a text is set
pub is_some_mapped : {X Y : Type 0} (f : X → Y) (o : Option X) → is_some (option_map f o) ≡ is_some o
is_some_mapped f None = refl
is_some_mapped f (Some x) = refl
