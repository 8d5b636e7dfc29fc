use Rattle.std.proofs.Common.{◌++◌, ◌∷◌, [], option_copied, map, sym, ap, ◌∙◌, append_assoc}
use Rattle.cookie_browser.specs.Bytes.{cut}
use Rattle.cookie_browser.proofs.CutLemmas.{pieces_at, rest-shorter, slice_split-cut}
use Rattle.cookie_report.specs.Paste.{line_of}
use Rattle.cookie_report.proofs.paste.all_lines.Goals as goal

pub loop-rest-smaller : goal.loop-rest-smaller
loop-rest-smaller c = rest-shorter 10 c.in-Some.text.now _ _ (ap option_copied c.in-Some.is) c.cut.ensures.after

pub loop-rest-preserved : goal.loop-rest-preserved
loop-rest-preserved c =
    let t = c.in-Some.text.now in
    let old = c.loop-rest.lines.items in
    ap (λ new. new ++ map line_of (pieces_at 10 (option_copied c.cut.result.1))) c.in_ok-push.ensures.items
    ∙ ap (λ o. (old ++ c.of.result ∷ []) ++ map line_of (pieces_at 10 o)) c.cut.ensures.after
    ∙ ap (λ line. (old ++ line ∷ []) ++ map line_of (pieces_at 10 (cut 10 t).1)) (c.of.ensures ∙ ap line_of c.cut.ensures.before)
    ∙ append_assoc old (line_of (cut 10 t).0 ∷ []) (map line_of (pieces_at 10 (cut 10 t).1))
    ∙ ap (λ ls. old ++ map line_of ls) (sym (slice_split-cut 10 t))
    ∙ ap (λ o. old ++ map line_of (pieces_at 10 o)) (sym (ap option_copied c.in-Some.is))
    ∙ c.loop-rest.invariant
