use Rattle.std.proofs.Common.{◌≡◌, ◌++◌, refl, sym, ap, ◌∙◌}
use Rattle.cookie.specs.Record.{Record}
use Rattle.cookie_client.specs.Calls.{asked_of_child, prefix_of, prefixed_by, stored_by, stored_with}
use Rattle.cookie_client.specs.declared.prefix_kind.PrefixKind.{PrefixKind}
use Rattle.cookie_client.specs.declared.prefix_kind.PrefixKind.TheVariants as kinds
use Rattle.cookie_client.proofs.OriginalLemmas.{holds_added}
use Rattle.cookie_client.proofs.originals.hold_prefixed.Goals as goal

stored_name : (kind : PrefixKind) (cookie : Record) → (stored_with kind cookie).name ≡ prefix_of kind ++ cookie.name
stored_name kinds.Host cookie = refl
stored_name kinds.Secure cookie = refl

pub returns-in_ok-name-in-AddOriginal : goal.returns-in_ok-name-in-AddOriginal
returns-in_ok-name-in-AddOriginal c =
    let cookie = c.in-AddOriginal.cookie.fields in
    let kind = c.args.kind in
    holds_added c.hold_original.result (stored_with kind cookie) (stored_by (prefixed_by kind) (asked_of_child c.args.call.now)) c.args.jar.now c.as_str.result.now c.args.client.now
    c.hold_original.new.client (ap (λ call. stored_by (prefixed_by kind) (asked_of_child call)) c.in-AddOriginal.is)
    (c.as_str.ensures.value ∙ c.in_ok-name-in-AddOriginal.ensures ∙ ap (λ name. prefix_of kind ++ name) c.name.ensures ∙ sym (stored_name kind cookie)) c.hold_original.ensures
