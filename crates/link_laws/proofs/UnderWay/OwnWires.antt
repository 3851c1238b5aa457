-- The posts on a wire are the side's own on that link.
use Rattle.std.proofs.Common.{Bool, List, [], drop, false, filter, if◌then◌else◌, refl, suc, true, zero, ℕ, ◌++◌, ◌∷◌, ◌≡◌}
use Rattle.history_laws.specs.Words.{Entry, LinkId, Placed, Side, if_latest, is_on, leaves, next_number, numbered, unlanded}

-- all of these are
abbrev pub AreOn : LinkId → Side → List Placed → Type 0
AreOn l x [] = Unit {0}
AreOn l x (c ∷ cs) = (is_on l x c.post ≡ true) × AreOn l x cs

on-append : (l : LinkId) (x : Side) (cs ds : List Placed) → AreOn l x cs → AreOn l x ds → AreOn l x (cs ++ ds)
on-append l x [] ds a b = b
on-append l x (c ∷ cs) ds a b = (a.0, on-append l x cs ds a.1 b)

on-filter : (l : LinkId) (x : Side) (cs : List Placed) → AreOn l x (filter (λ (c : Placed). is_on l x c.post) cs)
on-filter l x [] = tt
on-filter l x (c ∷ cs) = by (is_on l x c.post) refl (on-filter l x cs)
  where
    by : (b : Bool) → is_on l x c.post ≡ b → AreOn l x (filter (λ (c : Placed). is_on l x c.post) cs) → AreOn l x (if b then c ∷ filter (λ (c : Placed). is_on l x c.post) cs else filter (λ (c : Placed). is_on l x c.post) cs)
    by true e rest = (e, rest)
    by false e rest = rest

on-drop : (l : LinkId) (x : Side) (n : ℕ) (cs : List Placed) → AreOn l x cs → AreOn l x (drop n cs)
on-drop l x zero cs a = a
on-drop l x (suc n) [] a = tt
on-drop l x (suc n) (c ∷ cs) a = on-drop l x n cs a.1

pub own-posts : (l : LinkId) (x : Side) (past : List Entry) → AreOn l x (unlanded l x past)
own-posts l x [] = tt
own-posts l x (e ∷ older) = on-append l x (drop (if_latest l older (leaves x l.slot e.event e.reply)) (unlanded l x older)) (filter (λ (c : Placed). is_on l x c.post) (numbered (next_number older) 1 e.posts)) (on-drop l x (if_latest l older (leaves x l.slot e.event e.reply)) (unlanded l x older) (own-posts l x older)) (on-filter l x (numbered (next_number older) 1 e.posts))
