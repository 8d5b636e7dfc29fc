-- `from_raw` moves the two fields, and what they own goes with them: a walk of its MIR.
use Rattle.std.proofs.Common.{◌≡◌, Some, List, [], ◌∷◌, ◌++◌, refl, sym, subst}
use mir.Val.{Val}
use base.Logic.{SProp, ent, emp, id⊢}
use prog.Wp.{WpFn}
use types.Kit.{⋆, ‵, raw, ◌⊛◌, ◌$◌, ◌∵◌, !, qed, by, move, keep, drop, use0, use1, split, fsplit, fjoin}
use types.Part.{whole, sub, agg}
use types.Run.{stop, fld, no_more, and_then, of_opd, returns, enter}
use types.ByLocal.{alloc_all, pass_all, free_all, look_at, get, get_in, sets}
use base.Fml.{ftrue, fsep}
use contract.Monad.{fact, fact_i}
use contract.Running.{tables}
use denote.Exit.{no}
use denote.Signature.{type_at, plain}
use denote.Steps.{nothing}
use denote.Triple.Walked.{Stays, stay_dropped, walk_of}
use Rattle.std.proofs.alloc.Calls.{Goes-blank}
use Rattle.std_alloc.proofs.BoxSteps.Form.{D, B, word, box_typed}
use Rattle.std_alloc.proofs.BoxSteps.Steps.{box_out, box_in}
use Rattle.std_heap.specs.contracts.Global as Heap
use Rattle.std_heap.specs.contracts.GlobalAllocator.TheImpl.{ghosts}
use Rattle.std.proofs.raw_atomic.Walks.{proved_at, leaves}
use Rattle.cookie_c.proofs.HeldBox.{boxed}
use Rattle.cookie_c.specs.contracts.handle.content.Content as Content
use Rattle.cookie_c.specs.contracts.handle.raw_box.RawBox as RawBox
use Rattle.cookie_c.specs.contracts.handle.held.Held.from_raw.{ended, clauses, signature}
use Rattle.cookie_c.specs.contracts.handle.held.Held.from_raw.Key.{name as #self}
use Rattle.cookie_c.proofs.handle.held.Held.from_raw.Statement.{statement}
use Rattle.cookie_c.proofs.handle.held.Held.from_raw.Code as code

pub from_raw_spec : {M : Type 1} → statement M
from_raw_spec 𝓤 𝓛 𝓜 𝓡 wired =
    let H = 𝓛.H in let 𝓣 = tables 𝓤 H 𝓜 𝓡 𝓡.env in let c = clauses 𝓛 𝓜.mem 𝓡.returns in
    let hs : Stays signature.params ended.kept = (stay_dropped (plain (λ _. RawBox.the_row Content.the_row Heap.the_row ghosts)) no, tt) in
    proved_at 𝓛 ended hs c 𝓜 𝓡 (Goes-blank 𝓛 0 (plain (λ _. RawBox.the_row Content.the_row Heap.the_row ghosts)) no (λ κs x f. tt), tt) #self code.function (code.unfolded 𝓤 H 𝓜 𝓡 wired) (λ z are.
    let Post = (walk_of 𝓛 ended hs c).post z in let Run : List Val → SProp 𝓤 = λ ws. WpFn 𝓤 H 𝓣.C 𝓣.Λ code.function (ws ++ []) Post in
    let given = z.0.3.0 in
    let v : D boxed = record { ptr = given.at; alloc = given.alloc; value = given.value } in
    let To = type_at signature.result tt in
    let made : To.Denot = record { at = given.at; alloc = given.alloc; content = Some given.value } in
    qed 𝓛 ((‵ ftrue ⊛ ‵ (fsep ((B boxed).own_val v z.0.4.0) ftrue)) ∷ raw (emp 𝓤) ∷ []) ∵ split ! $ drop ! $ fsplit ! $
    box_out boxed ! v z.0.4.0 (λ b o hv e ws fits. box_in boxed ! v b o v.value e refl $
    let w = word boxed hv b o in let typed = box_typed boxed hv b o fits in
    use1 𝓛 (‵ (To.own_val made (w ∷ []))) (id⊢ 𝓤 _) $ keep ! (0 ∷ []) $
    by ! (subst (λ (us : List Val). ent 𝓤 (⋆ 𝓛 (‵ (To.own_val made (w ∷ [])) ∷ [])) (Run us)) (sym ws)
    (qed 𝓛 (‵ (To.own_val made (w ∷ [])) ∷ []) ∵ enter ! 𝓣.C 𝓣.Λ code.function (w ∷ []) _ $ alloc_all ! (λ l. pass_all ! refl (typed, tt) $
    -- let RawBox { at, alloc } = raw;
    sets ! (of_opd ! (get_in ! (fld ! refl (stop !)) (sub ! 0 refl (whole !)))) refl (tt, tt) $ sets ! (of_opd ! (get_in ! (fld ! refl (stop !)) (sub ! 1 refl (whole !)))) refl fits $
    -- Held { at: at as *mut (), alloc }
    sets ! (of_opd ! (get ! refl)) refl (tt, tt) $ sets ! (agg ! (and_then ! (get ! refl) (and_then ! (get ! refl) (no_more !)))) refl typed $
    returns ! (look_at ! 0 refl) $ free_all ! refl $
    use0 𝓛 (raw (fact 𝓤 (Some given.value ≡ Some given.value))) (fact_i 𝓤 (Some given.value ≡ Some given.value) (emp 𝓤) refl) $ move ! (1 ∷ 0 ∷ []) $ nothing ! $ nothing ! $ fjoin ! $ nothing ! $ by ! (leaves 𝓛 ended hs c z w made (tt, tt) (tt, tt)))))))
