-- Where the parts of a cookie's text stand, and what they are (RFC 6265 5.2).
use Rattle.std.specs.Prelude.{◌<◌, ◌≤◌, ℕ, List, [], Result, option_map, IfSome}
use Rattle.std.specs.Result.{result_map_both}
use Rattle.jiff.specs.Words.{signed_nanos}
use Rattle.cookie_core.specs.Pieces.{offset_of}
use Rattle.cookie_core.specs.Record.{Record, plain, without_leading_dot}
use Rattle.cookie_core.specs.Separators.{equals_sign, semicolon}
use Rattle.cookie_core.specs.Spans.{StandsIn, span_text}
use Rattle.cookie_core.specs.declared.attributes.Attributes.{Attributes}
use Rattle.cookie_core.specs.declared.layout.Layout.{Layout}
use Rattle.cookie_core.specs.declared.parse_error.ParseError.{ParseError}
use Rattle.cookie_core.specs.declared.span.Span.{Span}

-- the record of the attributes in the text, with an empty name and an empty value
abbrev pub attributes_of : List ℕ → Attributes → Record
attributes_of text attributes =
    record {
      name = [];
      value = [];
      http_only = attributes.http_only;
      secure = attributes.secure;
      partitioned = attributes.partitioned;
      same_site = attributes.same_site;
      path = option_map (span_text text) attributes.path;
      domain = option_map without_leading_dot (option_map (span_text text) attributes.domain);
      max_age = option_map signed_nanos attributes.max_age;
      expires = attributes.expires;
    }

-- the record of a layout in the text
abbrev pub layout_record : List ℕ → Layout → Record
layout_record text layout =
    record (attributes_of text layout.attributes) {
      name = span_text text layout.name;
      value = span_text text layout.value;
    }

-- the path and the domain stand in the text
abbrev pub AreIn : List ℕ → Attributes → Type 0
AreIn text attributes =
    IfSome attributes.path (StandsIn text) × IfSome attributes.domain (StandsIn text)

-- the spans of the layout stand in the text: the name before the first `=`, and the value after it and before the
-- first `;`
pub record IsLayoutIn (text : List ℕ) (layout : Layout) : Type 0 where
  pub name : StandsIn text layout.name
  pub value : StandsIn text layout.value
  pub before : layout.name.end ≤ offset_of equals_sign text
  pub after : offset_of equals_sign text < layout.value.start
  pub within : layout.value.end ≤ offset_of semicolon text
  pub attributes : AreIn text layout.attributes

-- the record of the layout in the text, or the refusal
abbrev pub laid_out : List ℕ → Result Layout ParseError → Result Record ParseError
laid_out text outcome = result_map_both (layout_record text) (λ error. error) outcome

-- the record of a name and a value at these spans of the text, or the refusal
abbrev pub pair_laid_out : List ℕ → Result (Span × Span) ParseError → Result Record ParseError
pair_laid_out text outcome =
    result_map_both (λ spans. plain (span_text text spans.0) (span_text text spans.1))
    (λ error. error) outcome
