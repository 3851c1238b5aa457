-- Where a text is that went by way of a page.
-- A reader learns here what stands with the sink and what on the page after each call, also after one that failed.
use Rattle.std.specs.Prelude.{ℕ, ◌≡◌, Bool, true, false, if◌then◌else◌, List, ◌++◌, take, Option, Result, is_ok}
use Rattle.byte_port.specs.Causes.{Grew}

-- the sink took more, and what is left on the page are what was on it, and behind that the text
pub record Went (held : Option (List ℕ)) (page : List ℕ) (now : Option (List ℕ)) (left text : List ℕ) : Type 0 where
  pub more : List ℕ
  pub took : Grew held now more
  pub rest : page ++ text ≡ more ++ left

-- Behind what a sink held and what was on the page stands a text: all of it, or a front of it.
unfoldable pub Stands : Bool → Option (List ℕ) → List ℕ → Option (List ℕ) → List ℕ → List ℕ → Type 0
Stands whole held page now left text = (n : ℕ) × Went held page now left (if whole then text else take n text)

-- all of the text stands there or, where a call failed, a front of it
abbrev pub Wrote : {T E : Type 0} → Result T E → Option (List ℕ) → List ℕ → Option (List ℕ) → List ℕ → List ℕ → Type 0
Wrote result held page now left text = Stands (is_ok result) held page now left text
