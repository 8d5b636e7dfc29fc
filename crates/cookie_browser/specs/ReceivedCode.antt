-- Mirrors private code: a received cookie with copies of its texts.
use Rattle.std.specs.Prelude.{Result, Ok, Err}
use Rattle.cookie_browser.specs.Received.{AttributesView, ReceivedView}
use Rattle.cookie_browser.specs.declared.attributes.ReceivedAttributes.{ReceivedAttributes as Parts}
use Rattle.cookie_browser.specs.declared.received.Received.{Received as Text}
use Rattle.cookie_browser.specs.declared.refusal.Refusal.{Refusal}

-- the attributes
abbrev pub attributes_view : Parts → AttributesView
attributes_view attributes =
    record {
      max_age = attributes.max_age;
      expires = attributes.expires;
      domain = attributes.domain.now;
      path = attributes.path.now;
      has_path = attributes.has_path;
      secure = attributes.secure;
      http_only = attributes.http_only;
      same_site = attributes.same_site;
    }

-- the received cookie
abbrev pub received_view : Text → ReceivedView
received_view received =
    record {
      name = received.name.now;
      value = received.value.now;
      attributes = attributes_view received.attributes;
    }

-- the received cookie, or the refusal
abbrev pub received_result : Result Text Refusal → Result ReceivedView Refusal
received_result (Ok received) = Ok (received_view received)
received_result (Err refusal) = Err refusal
