use Rattle.std.proofs.Common.{◌≡◌, ℕ, List, ◌∷◌, [], length, Option, Some, None, option_map, Bor, ap, sym, ◌∙◌, lit<, arith}
use Rattle.std.proofs.lemmas.Str.Pattern.{split_parts}
use Rattle.cookie_client.specs.Lines.{lines_left, lines_of}
use Rattle.cookie_client.proofs.LineLemmas.{lines_of-first, lines_of-last}
use Rattle.cookie_client.proofs.lines.LinesIterator.next.Goals as goal

pub returns-in-Some-clause-steps : goal.returns-in-Some-clause-steps
returns-in-Some-clause-steps c =
    let parts = split_parts 10 c.in_ok-rest.rest.now (Some (c.in-Some.line, c.in-Some.after)) c.in-Some.ensures.cases (lit< tt) in
    sym c.self.view_is ∙ ap (λ (o : Option (Bor (List ℕ))). lines_left (option_map (λ t. t.now) o)) c.in_ok-rest.was
    ∙ lines_of-first c.in_ok-rest.rest.now c.in-Some.line.now c.in-Some.after.now parts.0 parts.1
    ∙ ap (λ l. l ∷ lines_of c.in-Some.after.now) (sym c.without_return.ensures)

pub returns-in-Some-clause-goes : goal.returns-in-Some-clause-goes
returns-in-Some-clause-goes c =
    let parts = split_parts 10 c.in_ok-rest.rest.now (Some (c.in-Some.line, c.in-Some.after)) c.in-Some.ensures.cases (lit< tt) in
    let fewer : length c.args.self.now ≡ length (c.without_return.result.now ∷ lines_of c.in-Some.after.now) =
    ap length (sym c.self.view_is ∙ ap (λ (o : Option (Bor (List ℕ))). lines_left (option_map (λ t. t.now) o)) c.in_ok-rest.was
    ∙ lines_of-first c.in_ok-rest.rest.now c.in-Some.line.now c.in-Some.after.now parts.0 parts.1
    ∙ ap (λ l. l ∷ lines_of c.in-Some.after.now) (sym c.without_return.ensures)) in
    record { on = λ _. (tt, tt, omega (arith, fewer)); keeps = tt; rests = λ _. tt }

pub returns-in-None-clause-steps : goal.returns-in-None-clause-steps
returns-in-None-clause-steps c =
    sym c.self.view_is ∙ ap (λ (o : Option (Bor (List ℕ))). lines_left (option_map (λ t. t.now) o)) c.in_ok-rest.was
    ∙ lines_of-last c.in_ok-rest.rest.now (split_parts 10 c.in_ok-rest.rest.now None c.in-None.ensures.cases (lit< tt))
    ∙ ap (λ l. l ∷ []) (sym c.without_return-in-None.ensures)

pub returns-in-None-clause-goes : goal.returns-in-None-clause-goes
returns-in-None-clause-goes c =
    let fewer : length c.args.self.now ≡ length (c.without_return-in-None.result.now ∷ []) =
    ap length (sym c.self.view_is ∙ ap (λ (o : Option (Bor (List ℕ))). lines_left (option_map (λ t. t.now) o)) c.in_ok-rest.was
    ∙ lines_of-last c.in_ok-rest.rest.now (split_parts 10 c.in_ok-rest.rest.now None c.in-None.ensures.cases (lit< tt))
    ∙ ap (λ l. l ∷ []) (sym c.without_return-in-None.ensures)) in
    record { on = λ _. (tt, tt, omega (arith, fewer)); keeps = tt; rests = λ _. tt }
