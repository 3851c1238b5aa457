-- The posts of a history stand in its trace in order, so they are read of it again.
use Rattle.std.proofs.Common.{◌≡◌, ℕ, ◌+◌, ◌*◌, ◌<◌, ◌≤◌, ◌^◌, ◌⊎◌, inl, inr, true, List, [], ◌∷◌, ◌++◌, length, Ok, All, refl, arith, length-append}
use Rattle.std.proofs.lemmas.Bool.{lt-ltb, eq-eqb, and_from, or_left, or_right}
use Rattle.std.proofs.lemmas.List.Elements.{All-nil, All-cons, All-head, All-tail, All-append, All-weaker}
use Rattle.pipe_model.specs.declared.post.Post.{Post}
use Rattle.pipe_model.specs.declared.post.Post.TheVariants.{Write, Cdc, Llc, Clc}
use Rattle.pipe_model.specs.declared.post.PostRef.{PostRef}
use Rattle.pipe_model.specs.declared.post.Placed.{Placed}
use Rattle.pipe_model.specs.declared.entry.Entry.{Entry}
use Rattle.pipe_model.specs.History.{numbered}
use Rattle.wire_trace.specs.Files.{is_behind, before_all, posts_from, posts_in, posts_of, file_of}
use Rattle.wire_trace.specs.Traced.{IsTold, IsWritable, AreWritable, IsPlaced, IsNumbered, AreBehind, AreTraced, AreTold, IsToldEntry}
use Rattle.wire_trace.proofs.ReadAgain.FilesBack.{file_back}

-- a place is before one of an entry
abbrev IsBefore : PostRef → ℕ → ℕ → Type 0
IsBefore last n post = (last.entry < n) ⊎ ((last.entry ≡ n) × (last.post < post))

behind_it : (last : PostRef) (n post : ℕ) → IsBefore last n post → is_behind last (record { entry = n; post = post }) ≡ true
behind_it last n post (inl l) = or_left _ _ (lt-ltb last.entry n l)
behind_it last n post (inr e) = or_right _ _ (and_from _ _ (eq-eqb last.entry n e.0) (lt-ltb last.post post e.1))

not_above : (last : PostRef) (n post : ℕ) → IsBefore last n post → last.entry ≤ n
not_above last n post (inl l) = omega (arith, l)
not_above last n post (inr e) = omega (arith, e.0)

-- the posts of an entry, and what stands behind each post of it
run_behind : (n post : ℕ) (posts : List Post) (rest : List Placed) (last : PostRef) → IsBefore last n post → ((l : PostRef) → l.entry ≤ n → AreBehind l rest) → AreBehind last (numbered n post posts ++ rest)
run_behind n post [] rest last before later = later last (not_above last n post before)
run_behind n post (p ∷ posts) rest last before later =
    (behind_it last n post before, run_behind n (post + 1) posts rest (record { entry = n; post = post }) (inr (refl, omega arith)) later)

from_behind : (n : ℕ) (entries : List Entry) (last : PostRef) → last.entry < n → AreBehind last (posts_from n entries)
from_behind n [] last l = tt
from_behind n (e ∷ entries) last l = run_behind n 1 e.posts (posts_from (n + 1) entries) last (inl l) (λ next below. from_behind (n + 1) entries next (omega (arith, below)))

run_placed : (n post : ℕ) (posts : List Post) → n < 2 ^ 32 → All IsTold posts → All IsPlaced (numbered n post posts)
run_placed n post [] few told = All-nil IsPlaced
run_placed n post (p ∷ posts) few told =
    All-cons IsPlaced _ _ (record { entry = few; told = All-head IsTold p posts told }) (run_placed n (post + 1) posts few (All-tail IsTold p posts told))

run_numbered : (n post : ℕ) (posts : List Post) → 1 ≤ n → 1 ≤ post → post + length posts ≤ 7 → All (λ (p : Placed). IsNumbered p.at) (numbered n post posts)
run_numbered n post [] some low few = All-nil (λ (p : Placed). IsNumbered p.at)
run_numbered n post (p ∷ posts) some low few =
    All-cons (λ (q : Placed). IsNumbered q.at) _ _ (record { entry = some; low = low; high = omega (arith, few) }) (run_numbered n (post + 1) posts some (omega arith) (omega (arith, few)))

run_length : (n post : ℕ) (posts : List Post) → length (numbered n post posts) ≡ length posts
run_length n post [] = refl
run_length n post (p ∷ posts) = let rest = run_length n (post + 1) posts in omega (arith, rest)

from_placed : (n : ℕ) (entries : List Entry) → n + length entries ≤ 2 ^ 32 → All IsToldEntry entries → All IsPlaced (posts_from n entries)
from_placed n [] few told = All-nil IsPlaced
from_placed n (e ∷ entries) few told =
    All-append IsPlaced (numbered n 1 e.posts) (posts_from (n + 1) entries)
    (run_placed n 1 e.posts (omega (arith, few)) (All-head IsToldEntry e entries told).told)
    (from_placed (n + 1) entries (omega (arith, few)) (All-tail IsToldEntry e entries told))

from_numbered : (n : ℕ) (entries : List Entry) → 1 ≤ n → All IsToldEntry entries → All (λ (p : Placed). IsNumbered p.at) (posts_from n entries)
from_numbered n [] some told = All-nil (λ (p : Placed). IsNumbered p.at)
from_numbered n (e ∷ entries) some told =
    All-append (λ (p : Placed). IsNumbered p.at) (numbered n 1 e.posts) (posts_from (n + 1) entries)
    (run_numbered n 1 e.posts some (omega arith) (let few = (All-head IsToldEntry e entries told).few in omega (arith, few)))
    (from_numbered (n + 1) entries (omega arith) (All-tail IsToldEntry e entries told))

from_length : (n : ℕ) (entries : List Entry) → All IsToldEntry entries → length (posts_from n entries) ≤ 6 * length entries
from_length n [] told = omega arith
from_length n (e ∷ entries) told =
    let sum = length-append (numbered n 1 e.posts) (posts_from (n + 1) entries) in
    let these = run_length n 1 e.posts in
    let few = (All-head IsToldEntry e entries told).few in
    let rest = from_length (n + 1) entries (All-tail IsToldEntry e entries told) in
    omega (arith, sum, these, few, rest)

pub history_traced : (entries : List Entry) → AreTold entries → AreTraced (posts_in entries)
history_traced entries t =
    let short = from_length 1 entries t.told in
    record {
      told = from_placed 1 entries (omega (arith, t.few)) t.told;
      numbered = from_numbered 1 entries (omega arith) t.told;
      behind = from_behind 1 entries before_all (omega arith);
      few = omega (arith, short, t.few);
    }

pub history_back : (entries : List Entry) → AreTold entries → posts_of (file_of (posts_in entries)) ≡ Ok (posts_in entries)
history_back entries t = file_back (posts_in entries) (history_traced entries t)

writable : (post : Post) → IsTold post → IsWritable post
writable (Write from link key address len) t = tt
writable (Cdc from link m) t = tt
writable (Llc from link m) t = t.2
writable (Clc from s link m) t = t.3

pub history_writable : (entries : List Entry) → AreTold entries → AreWritable entries
history_writable entries t = All-weaker IsToldEntry (λ (e : Entry). All IsWritable e.posts) (λ e told. All-weaker IsTold IsWritable writable e.posts told.told) entries t.told
