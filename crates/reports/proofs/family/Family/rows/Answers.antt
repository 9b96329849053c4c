use Rattle.std.proofs.Common.{rules, ◌≡◌, ◌+◌, ◌-◌, ◌<◌, T, [], ◌∷◌, ◌++◌, length, get_or, sym, ap, subst, arith}
use Rattle.std.proofs.lemmas.List.{length_push}
use Rattle.families.specs.Chain.{links}
use Rattle.lines.specs.Level.{level, level_of}
use Rattle.marker.specs.Records.{chain_of}
use Rattle.writer.specs.Family.{chains_of}
use Rattle.reports.specs.Link.{allows_all}
use Rattle.reports.specs.Row.{Tells}
use Rattle.reports.proofs.Alone.{alone_no_dearer}
use Rattle.reports.proofs.Rows.{all_allowed, told_more}
use Rattle.reports.proofs.family.Family.rows.Goals as goal

pub row_of-requires-clause-allowed : goal.row_of-requires-clause-allowed
row_of-requires-clause-allowed g c =
    let says = g.M.Measure.says c.args.measure.now in
    let f = c.args.self.now in
    let vs = f.line.vertices.now in
    let ls = f.levels.now in
    let chains = chains_of f.counts.now f.numbers.now in
    let i = c.loop-i.i in
    let e : i + 1 - 1 ≡ i = omega arith in
    let below : i < length ls = omega arith in
    let each = all_allowed says vs (level_of ls (i + 1)).tolerance (links (chain_of chains (i + 1))) (c.requires.family.links_allowed (i + 1) (omega arith) (omega arith)) in
    subst (λ xs. T (allows_all says vs (links xs) (get_or ls i (level 0 0)).tolerance)) (sym c.chain.ensures)
    (subst (λ j. T (allows_all says vs (links (get_or chains j [])) (get_or ls j (level 0 0)).tolerance)) e each)

pub loop-i-preserved : goal.loop-i-preserved
loop-i-preserved g c =
    let K = g.P.Price.kind in
    let link = g.P.Price.link in
    let says = g.M.Measure.says c.args.measure.now in
    let f = c.args.self.now in
    let vs = f.line.vertices.now in
    let ls = f.levels.now in
    let chains = chains_of f.counts.now f.numbers.now in
    let i = c.loop-i.i in
    let before = c.loop-i.rows.items in
    let row = c.in_ok-row.row in
    let e : i ≡ i + 1 - 1 = omega arith in
    let added : c.push.new.self.items ≡ before ++ (row ∷ []) = search rules in
    let here = subst (λ j. Tells K link says vs (i + 1) (get_or ls j (level 0 0)) (get_or chains j []) row) e
    (subst (λ xs. Tells K link says vs (i + 1) (get_or ls i (level 0 0)) xs row) c.chain.ensures c.in_ok-row.ensures) in
    record {
      told = omega (arith, ap length added, length_push before row, c.loop-i.invariant.told);
      each = told_more (λ k r. Tells K link says vs k (level_of ls k) (chain_of chains k) r) before c.push.new.self.items row i c.loop-i.invariant.told added c.loop-i.invariant.each here;
    }

pub returns : goal.returns
returns g c =
    let f = c.args.self.now in
    record {
      one_each = search rules;
      each = c.loop-i.invariant.each;
      alone_no_dearer = alone_no_dearer g.met.P.Price.rules g.P.Price.link (g.M.Measure.says c.args.measure.now) f.line.vertices.now f.levels.now (chain_of (chains_of f.counts.now f.numbers.now)) c.requires.family;
    }
