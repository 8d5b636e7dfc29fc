-- Mirrors private code: what a splitter's private fields stand for.
use Rattle.std.specs.Prelude.{IfSome}
use Rattle.cookie_core.specs.SplitCode.{header_bytes, is_decoded, is_owned, texts_in}
use Rattle.cookie_core.specs.Spans.{StandsIn}
use Rattle.cookie_core.specs.SplitCookies.{SplitView}
use Rattle.cookie_core.specs.declared.split.SplitCookies.TheInside.{Inside}

-- the splitter as contracts see it
abbrev pub splitter_view : Inside → SplitView
splitter_view inside =
    record {
      texts = texts_in (header_bytes inside.header) inside.rest;
      is_decoded = is_decoded inside.header;
      is_owned = is_owned inside.header;
    }

-- the rest stands in the header
abbrev pub HasFittingRest : Inside → Type 0
HasFittingRest inside = IfSome inside.rest (StandsIn (header_bytes inside.header))
