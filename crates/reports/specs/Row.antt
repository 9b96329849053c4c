-- The rows of a report: what each level of a family keeps, and what it costs. Assumes nothing.
use Rattle.std.specs.Prelude.{◌≡◌, ℕ, ◌-◌, ◌≤◌, List, [], ◌∷◌, length, Some, slice_get}
use Rattle.families.specs.Price.{Kind, NotDearer}
use Rattle.families.specs.Chain.{links}
use Rattle.families.specs.Family.{cost}
use Rattle.families.specs.Least.{L}
use Rattle.lines.specs.Level.{level_of}
use Rattle.lines.specs.declared.level.Level.{Level}
use Rattle.lines.specs.declared.vertex.Vertex.{Vertex}
use Rattle.measures.specs.Measure.{Answer, allowed_by}
use Rattle.prices.specs.Price.{LinkPrice, price_by}
use Rattle.prices.specs.Count.{count_kind, count_link}
use Rattle.prices.specs.CountThenArea.{count_then_area_kind, count_then_area_link}
use Rattle.packs.specs.declared.kind.PriceKind.{PriceKind}
use Rattle.packs.specs.declared.kind.PriceKind.TheVariants.{Count, CountThenArea}
use Rattle.marker.specs.Records.{chain_of}
use Rattle.reports.specs.Share.{share}
use Rattle.reports.specs.Link.{IsLength, longest_square, LeastPassing, allows_all}
use Rattle.reports.specs.declared.row.Row.{Row}

module _ {P : Type 0} (K : Kind P) (link : LinkPrice P) (says : Answer) (vs : List Vertex) where
  -- The least total of a level alone: that of the families of this one level.
  abbrev pub least_alone : Level → P
  least_alone l = L K (price_by link vs (l ∷ [])) (allowed_by says vs (l ∷ [])) 1 0 (length vs - 1)

  -- The row tells of level k, under which the line has this chain.
  pub record Tells (k : ℕ) (l : Level) (chain : List ℕ) (row : Row) : Type 0 where
    pub level : row.level ≡ k
    pub tolerance : row.tolerance ≡ l.tolerance
    pub weight : row.weight ≡ l.weight
    -- how many links the chain has, how many vertices it keeps, and how many of a thousand
    pub links_counted : row.links ≡ length (links chain)
    pub kept : row.kept ≡ length chain
    pub shared : row.share ≡ share (length chain) (length vs)
    -- the length of its longest link, rounded down
    pub longest : IsLength (longest_square vs (links chain)) row.longest
    -- the least tolerance at which all of its links are allowed
    pub enough : LeastPassing (allows_all says vs (links chain)) (Some row.enough)
    -- the forms of its cost, and of the least total of this level alone
    pub price : row.price ≡ K.form (cost K (λ _ i j. link vs i j l.weight) 0 (links chain))
    pub alone : row.alone ≡ K.form (least_alone l)

  -- The rows tell of the chains of levels, one row for each level in order.
  pub record TellsAll (ls : List Level) (chains : List (List ℕ)) (rows : List Row) : Type 0 where
    pub one_each : length rows ≡ length ls
    pub each : (k : ℕ) (row : Row) → 1 ≤ k → slice_get rows (k - 1) ≡ Some row → Tells k (level_of ls k) (chain_of chains k) row
    -- no level costs less within the family than it would alone
    pub alone_no_dearer : (k : ℕ) → 1 ≤ k → k ≤ length ls →
        NotDearer K (least_alone (level_of ls k)) (cost K (λ _ i j. link vs i j (level_of ls k).weight) 0 (links (chain_of chains k)))

-- The same under the price with a number.
abbrev pub TellsPriced : PriceKind → Answer → List Vertex → List Level → List (List ℕ) → List Row → Type 0
TellsPriced Count says vs ls chains rows = TellsAll count_kind count_link says vs ls chains rows
TellsPriced CountThenArea says vs ls chains rows = TellsAll count_then_area_kind count_then_area_link says vs ls chains rows
