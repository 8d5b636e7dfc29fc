-- The texts of a refusal, and which one a full header map's is.
use Rattle.std.specs.Prelude.{ℕ, List, codes}
use Rattle.http_header.specs.declared.map.HeaderMapError.{HeaderMapError}
use Rattle.http_header.specs.declared.map.HeaderMapError.TheVariants as full
use Rattle.cookie_http.specs.declared.http_error.HttpError.{HttpError}
use Rattle.cookie_http.specs.declared.http_error.HttpError.TheVariants as refusal

-- the text of a refusal
abbrev pub http_refusal_text : HttpError → List ℕ
http_refusal_text refusal.OutOfMemory = codes "out of memory"
http_refusal_text refusal.InvalidValue = codes "a cookie's path or domain is no attribute value"
http_refusal_text refusal.TooManyFields = codes "too many header fields"

-- a header map's refusal, as one of carrying cookies
abbrev pub refusal_of : HeaderMapError → HttpError
refusal_of full.MaxSizeReached = refusal.TooManyFields
refusal_of full.OutOfMemory = refusal.OutOfMemory
