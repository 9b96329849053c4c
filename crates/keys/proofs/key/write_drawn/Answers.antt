use Rattle.std.proofs.Common.{rules, ◌≡◌, length, take, map, vec_items, refl, ap, ◌∙◌}
use Rattle.std.specs.List.{concat}
use Rattle.std.proofs.lemmas.List.{with_items_is}
use Rattle.writer.specs.declared.family.Family.{Family}
use Rattle.keys.specs.Key.{chains_off}
use Rattle.keys.proofs.Writing.{not_refused, front}
use Rattle.keys.proofs.key.write_drawn.Goals as goal

pub returns-in_err-size : goal.returns-in_err-size
returns-in_err-size c =
    let d = c.args.drawing.now in
    let f : Family = record { chains = c.as_slice-2.result; counts = c.as_slice-3.result; total = d.form } in
    let stays : c.as_slice.result.now ≡ vec_items d.stays = c.as_slice.ensures.value in
    let numbers : c.as_slice-2.result.now ≡ concat (chains_off d.levels (vec_items d.stays)) =
    c.as_slice-2.ensures.value ∙ c.in_ok-chains.ensures.numbers ∙ ap (λ xs. concat (chains_off d.levels xs)) stays in
    let counts : c.as_slice-3.result.now ≡ map length (chains_off d.levels (vec_items d.stays)) =
    c.as_slice-3.ensures.value ∙ c.in_ok-chains.ensures.counts ∙ ap (λ xs. map length (chains_off d.levels xs)) stays in
    absurd (not_refused c.args.measure c.args.price c.args.line.now.vertices.now c.args.levels.now d c.args.line.now.lawful c.requires.levels c.requires.shown f numbers counts refl
    c.from.result c.from-2.result (length c.as_mut_slice.result.now) c.from.ensures c.from-2.ensures (search rules) c.in_err-size.field-0.0 (search rules))

pub returns : goal.returns
returns c =
    let d = c.args.drawing.now in
    let f : Family = record { chains = c.as_slice-2.result; counts = c.as_slice-3.result; total = d.form } in
    let stays : c.as_slice.result.now ≡ vec_items d.stays = c.as_slice.ensures.value in
    let numbers : c.as_slice-2.result.now ≡ concat (chains_off d.levels (vec_items d.stays)) =
    c.as_slice-2.ensures.value ∙ c.in_ok-chains.ensures.numbers ∙ ap (λ xs. concat (chains_off d.levels xs)) stays in
    let counts : c.as_slice-3.result.now ≡ map length (chains_off d.levels (vec_items d.stays)) =
    c.as_slice-3.ensures.value ∙ c.in_ok-chains.ensures.counts ∙ ap (λ xs. map length (chains_off d.levels xs)) stays in
    let memory = c.write_family.new.bytes in
    let whole = with_items_is c.in_ok-pack.pack memory (c.write_family.auto.bytes ∙ c.as_mut_slice.ensures.len) in
    c.truncate.ensures.items ∙ ap (take c.in_ok-size.size) whole ∙
    front c.args.measure c.args.price c.args.line.now.vertices.now c.args.levels.now d c.args.line.now.lawful c.requires.levels c.requires.shown f numbers counts refl
    c.from.result c.from-2.result (length c.as_mut_slice.result.now) c.from.ensures c.from-2.ensures (search rules) c.in_ok-size.size c.as_mut_slice.result.now memory
    c.in_ok-size.ensures.answer c.in_ok-size.ensures.bytes_after
