-- A CLC message that is posted with an entry is the one that waits to be taken after it, on a known socket of the side that acts.
use Rattle.std.proofs.Common.{◌≡◌, ◌∙◌, ◌==◌, ℕ, ◌+◌, ◌<◌, ◌≤◌, if◌then◌else◌, List, [], ◌∷◌, ◌++◌, length, drop, filter_map, refl, ap, sym, subst, ◌&&◌, arith, append_assoc, length-append, eq-eqb}
use Rattle.std.specs.Prelude.{Option, Some, None}
use Rattle.std.specs.List.{cons_option}
use Rattle.smc_num.specs.declared.Side.{Side}
use Rattle.smc_num.specs.declared.Side.TheVariants.{A, B}
use Rattle.smc_num.specs.declared.LinkId.{LinkId}
use Rattle.smc_num.specs.Names.{same_side, head}
use Rattle.clc_wire.specs.declared.message.ClcMessage.{ClcMessage}
use Rattle.pipe_model.specs.declared.setup.Setup.{Setup}
use Rattle.pipe_model.specs.declared.post.Post.{Post}
use Rattle.pipe_model.specs.declared.post.Post.TheVariants.{Write, Cdc, Llc, Clc}
use Rattle.pipe_model.specs.declared.entry.Entry.{Entry}
use Rattle.pipe_model.specs.Fallback.{clc_in, takes_clc, untaken}
use Rattle.world_core.specs.Played.{IsOneLink, IsPlayed}
use Rattle.world_core.specs.Sockets.{Socket, Proposed, Refused, FirstAccepted, FirstConfirmed, Accepted, AcceptRefused, Confirmed, untaken_at}
use Rattle.world_core.specs.WireSteps.{EachPost}
use Rattle.world_core.specs.Sending.{acting_side}
use Rattle.world_core.proofs.PlayedWorlds.{played}
use Rattle.world_core.proofs.PostsFrom.{IsSentBy, posts-from}
use Rattle.world_core.proofs.Plain.{same-self}

-- that a CLC message is on a known socket, and waits first there
abbrev pub IsPosted : ℕ → Side → List Entry → Post → Type 0
IsPosted sockets x past (Clc from s link message) = (s < sockets) × (head (untaken x s past) ≡ Some message)
IsPosted sockets x past _ = Unit {0}

-- no more than one waits on a socket
few-at : (setup : Setup) (k : Socket) (x : Side) → length (untaken_at setup k x) ≤ 1
few-at setup Proposed A = omega arith
few-at setup (Refused r) B = omega arith
few-at setup (FirstAccepted o) B = omega arith
few-at setup (FirstConfirmed o p) A = omega arith
few-at setup (Accepted o) B = omega arith
few-at setup (AcceptRefused o r) A = omega arith
few-at setup (Confirmed o p) A = omega arith
few-at setup _ x = omega arith

pub untaken-few : (setup : Setup) (one : IsOneLink setup) (payload : List ℕ) (past : List Entry) (n : ℕ) → IsPlayed setup payload past n → (x : Side) (s : ℕ) → length (untaken x s past) ≤ 1
untaken-few setup one payload past n p x s =
    let w = played setup one payload past n p in
    let world = w.world in
    let h = world.sockets s in
    let at = h.stands in
    let a : length (untaken x s past) ≡ length (untaken_at setup h.at x) = ap (λ ms. length ms) (at.messages x) in
    let b = few-at setup h.at x in omega (arith, a, b)

-- the only one is the first
only-first : (ms before rest : List ClcMessage) (m : ClcMessage) → ms ≡ before ++ m ∷ rest → length ms ≤ 1 → head ms ≡ Some m
only-first ms [] rest m e l = ap (λ ks. head ks) e
only-first ms (k ∷ before) rest m e l =
    let a : length ms ≡ length ((k ∷ before) ++ m ∷ rest) = ap (λ ks. length ks) e in
    let b : length ((k ∷ before) ++ m ∷ rest) ≡ length (k ∷ before) + length (m ∷ rest) = length-append (k ∷ before) (m ∷ rest) in
    absurd (omega (arith, a, b, l))

found : (x from : Side) (s : ℕ) (link : Option LinkId) (m : ClcMessage) → from ≡ x → clc_in x s (Clc from s link m) ≡ Some m
found x from s link m e = ap (λ y. if same_side x y && (s == s) then Some m else None) e ∙ (ap (λ b. if b && (s == s) then Some m else None) (same-self x) ∙ ap (λ b. if b then Some m else None) (eq-eqb s s refl))

behind : (o : Option ClcMessage) (before rest : List ClcMessage) → before ++ cons_option o rest ≡ (before ++ cons_option o []) ++ rest
behind o before rest = by o ∙ sym (append_assoc before (cons_option o []) rest)
  where
    by : (q : Option ClcMessage) → before ++ cons_option q rest ≡ before ++ (cons_option q [] ++ rest)
    by None = refl
    by (Some m) = refl

module _ (sockets : ℕ) (x : Side) (past : List Entry) (few : (s : ℕ) → length (untaken x s past) ≤ 1) where
  all-posted : (before : ℕ → List ClcMessage) (ps : List Post) → EachPost (IsSentBy sockets x) ps → ((s : ℕ) → untaken x s past ≡ before s ++ filter_map (clc_in x s) ps) → EachPost (IsPosted sockets x past) ps
  all-posted before [] f e = tt
  all-posted before (post ∷ ps) f e = (here post refl, all-posted (λ s. before s ++ cons_option (clc_in x s post) []) ps f.1 (λ s. e s ∙ behind (clc_in x s post) (before s) (filter_map (clc_in x s) ps)))
    where
      here : (q : Post) → post ≡ q → IsPosted sockets x past q
      here (Write from link key address len) g = tt
      here (Cdc from link m) g = tt
      here (Llc from link m) g = tt
      here (Clc from s link m) g =
          let sent : IsSentBy sockets x (Clc from s link m) = subst (λ r. IsSentBy sockets x r) g f.0 in
          let is : clc_in x s post ≡ Some m = ap (λ r. clc_in x s r) g ∙ found x from s link m sent.0 in
          (sent.1, only-first (untaken x s past) (before s) (filter_map (clc_in x s) ps) m (e s ∙ ap (λ o. before s ++ cons_option o (filter_map (clc_in x s) ps)) is) (few s))

-- each CLC message that an entry posts waits first after it
pub clc-posted : (setup : Setup) (one : IsOneLink setup) (payload : List ℕ) (e : Entry) (past : List Entry) (n : ℕ) → IsPlayed setup payload (e ∷ past) n → (x : Side) → acting_side e.event ≡ x → EachPost (IsPosted setup.sockets x (e ∷ past)) e.posts
clc-posted setup one payload e past n p x acts =
    let a = posts-from setup one payload e past n p in
    all-posted setup.sockets x (e ∷ past) (λ s. untaken-few setup one payload (e ∷ past) n p x s) (λ s. drop (if takes_clc x s e.event e.reply then 1 else 0) (untaken x s past)) e.posts
    (subst (λ y. EachPost (IsSentBy setup.sockets y) e.posts) acts a.from) (λ s. refl)
