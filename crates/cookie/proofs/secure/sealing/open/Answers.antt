use Rattle.std.proofs.Common.{refl, rules}
use Rattle.cookie.proofs.SealingLemmas.{opened_right, opened_whole, opened_without_nonce, opened_without_tag, opened_wrong}
use Rattle.cookie.proofs.secure.sealing.open.Goals as goal

pub returns-in_default : goal.returns-in_default
returns-in_default c = opened_without_nonce c.args.cipher.now c.args.bound.now c.args.bytes.now c.in_default.ensures.cases

pub returns-in_default-split_last_chunk : goal.returns-in_default-split_last_chunk
returns-in_default-split_last_chunk c =
    opened_without_tag c.args.cipher.now c.args.bound.now c.args.bytes.now c.in-Some.rest.now c.in-Some.ensures.cases.1 c.in_default-split_last_chunk.ensures.cases

pub returns-then-open_in_place : goal.returns-then-open_in_place
returns-then-open_in_place c =
    let front = c.in-Some.ensures.cases in
    let back = c.in-Some-split_last_chunk.ensures.cases in
    let opens = c.if-open_in_place.ensures in
    opened_right c.args.cipher.now c.args.bound.now c.args.bytes.now c.in-Some.nonce.now c.in-Some.rest.now c.in-Some-split_last_chunk.text.now
    c.in-Some-split_last_chunk.tag.now front.0 front.1 back.0 back.1 c.args.bound.now c.as_mut_slice.result.now refl
    (search rules) c.open_in_place.new.text _ (opened_whole _ _ _ _ _ _ _ _ opens.opened c.as_mut_slice.ensures.len) (c.in-Some.ensures.variant.0 refl) opens.opened opens.only

pub returns-else-open_in_place : goal.returns-else-open_in_place
returns-else-open_in_place c =
    let front = c.in-Some.ensures.cases in
    let back = c.in-Some-split_last_chunk.ensures.cases in
    opened_wrong c.args.cipher.now c.args.bound.now c.args.bytes.now c.in-Some.nonce.now c.in-Some.rest.now c.in-Some-split_last_chunk.text.now
    c.in-Some-split_last_chunk.tag.now front.0 front.1 back.0 back.1 c.args.bound.now c.as_mut_slice.result.now refl
    (search rules) c.if-open_in_place.ensures.refused
