-- The sums of a socket's shares are those of its history.
use Rattle.std.proofs.Common.{◌≡◌, ◌∙◌, ℕ, ◌+◌, ◌≤◌, List, [], ◌∷◌, ◌++◌, length, codes, cond, Option, Some, None, refl, ap, arith}
use Rattle.std.specs.List.{flat_map, sum_by}
use Rattle.std.specs.Fmt.{decimal}
use Rattle.std.proofs.lemmas.List.{length-append}
use Rattle.std.proofs.lemmas.List.Sums.{sum_by-append, sum_by-cons}
use Rattle.smc_num.specs.declared.Side.{Side}
use Rattle.smc_num.specs.declared.Side.TheVariants.{A, B}
use Rattle.pipe_model.specs.declared.entry.Entry.{Entry}
use Rattle.pipe_model.specs.declared.event.End.{End}
use Rattle.pipe_model.specs.declared.event.Event.{Event}
use Rattle.pipe_model.specs.declared.event.Event.TheVariants.{Open, Raw, Write, Read, Finish, Close, Abort, Await, Clc, Deliver, Complete, Swallow, Cut, Heal, Report, Move, Grow, Test, Trim}
use Rattle.scene_text.specs.Spelling.{name_text}
use Rattle.scene_text.specs.Fields.{two_numbers}
use Rattle.scene_text.specs.HistoryText.{is_call_on, taken_by, handed_by, wrote_at, read_at, sums_text, socket_text}
use Rattle.smcr_calls.specs.Shares.{caller, share_at, share_of, shares_of, wrote_in, read_in, shared_sums_text, shared_end_text, shared_ends_text, shared_socket_text}

at_most_one : (caller : Option End) (wrote read : ℕ) → length (share_at caller wrote read) ≤ 1
at_most_one None wrote read = omega arith
at_most_one (Some end) wrote read = omega arith

pub few_shares : (history : List Entry) → length (shares_of history) ≤ length history
few_shares [] = omega arith
few_shares (e ∷ es) =
    let one = at_most_one (caller e.event) (taken_by e.reply) (handed_by e.reply) in
    let more = few_shares es in
    let all = length-append (share_of e) (shares_of es) in
    omega arith

module _ (x : Side) (s : ℕ) where
  -- an entry's share is what the entry adds to the sums of an end
  abbrev Counts : Event → ℕ → ℕ → Type 0
  Counts event wrote read = (sum_by (wrote_in x s) (share_at (caller event) wrote read) ≡ cond (is_call_on x s event) wrote 0) × (sum_by (read_in x s) (share_at (caller event) wrote read) ≡ cond (is_call_on x s event) read 0)

  counted : (event : Event) (wrote read : ℕ) → Counts event wrote read
  counted (Raw t at len) wrote read = (omega arith, omega arith)
  counted (Write end at len) wrote read = (omega arith, omega arith)
  counted (Read end len) wrote read = (omega arith, omega arith)
  counted (Open t) wrote read = (refl, refl)
  counted (Finish end) wrote read = (refl, refl)
  counted (Close end) wrote read = (refl, refl)
  counted (Abort end) wrote read = (refl, refl)
  counted (Await end) wrote read = (refl, refl)
  counted (Clc t dir) wrote read = (refl, refl)
  counted (Deliver slot dir) wrote read = (refl, refl)
  counted (Complete slot dir) wrote read = (refl, refl)
  counted (Swallow slot dir) wrote read = (refl, refl)
  counted (Cut slot) wrote read = (refl, refl)
  counted (Heal slot) wrote read = (refl, refl)
  counted (Report side slot) wrote read = (refl, refl)
  counted (Move end) wrote read = (refl, refl)
  counted Grow wrote read = (refl, refl)
  counted (Test side slot) wrote read = (refl, refl)
  counted (Trim side) wrote read = (refl, refl)

  wrote_same : (history : List Entry) → sum_by (wrote_in x s) (shares_of history) ≡ sum_by (wrote_at x s) history
  wrote_same [] = refl
  wrote_same (e ∷ es) =
      let front : sum_by (wrote_in x s) (share_of e) ≡ wrote_at x s e = (counted e.event (taken_by e.reply) (handed_by e.reply)).0 in
      let later : sum_by (wrote_in x s) (shares_of es) ≡ sum_by (wrote_at x s) es = wrote_same es in
      let parts : sum_by (wrote_in x s) (shares_of (e ∷ es)) ≡ sum_by (wrote_in x s) (share_of e) + sum_by (wrote_in x s) (shares_of es) = sum_by-append (wrote_in x s) (share_of e) (shares_of es) in
      let all : sum_by (wrote_at x s) (e ∷ es) ≡ wrote_at x s e + sum_by (wrote_at x s) es = sum_by-cons (wrote_at x s) e es in
      omega arith

  read_same : (history : List Entry) → sum_by (read_in x s) (shares_of history) ≡ sum_by (read_at x s) history
  read_same [] = refl
  read_same (e ∷ es) =
      let front : sum_by (read_in x s) (share_of e) ≡ read_at x s e = (counted e.event (taken_by e.reply) (handed_by e.reply)).1 in
      let later : sum_by (read_in x s) (shares_of es) ≡ sum_by (read_at x s) es = read_same es in
      let parts : sum_by (read_in x s) (shares_of (e ∷ es)) ≡ sum_by (read_in x s) (share_of e) + sum_by (read_in x s) (shares_of es) = sum_by-append (read_in x s) (share_of e) (shares_of es) in
      let all : sum_by (read_at x s) (e ∷ es) ≡ read_at x s e + sum_by (read_at x s) es = sum_by-cons (read_at x s) e es in
      omega arith

  sums_same : (history : List Entry) → shared_sums_text (shares_of history) x s ≡ sums_text history x s
  unfolding two_numbers
  sums_same history =
      ap (λ (n : ℕ). codes " wrote " ++ (decimal n ++ (codes " read " ++ decimal (sum_by (read_in x s) (shares_of history))))) (wrote_same history)
      ∙ ap (λ (n : ℕ). codes " wrote " ++ (decimal (sum_by (wrote_at x s) history) ++ (codes " read " ++ decimal n))) (read_same history)

module _ (names : List (List ℕ)) (history : List Entry) where
  same_socket : (s : ℕ) → shared_socket_text names (shares_of history) s ≡ socket_text names history s
  unfolding shared_end_text shared_ends_text
  same_socket s =
      ap (λ (sums : List ℕ). codes "socket " ++ (name_text names s ++ (codes " A" ++ (sums ++ (codes " B" ++ (shared_sums_text (shares_of history) B s ++ codes "\n")))))) (sums_same A s history)
      ∙ ap (λ (sums : List ℕ). codes "socket " ++ (name_text names s ++ (codes " A" ++ (sums_text history A s ++ (codes " B" ++ (sums ++ codes "\n")))))) (sums_same B s history)

  pub same_sockets : (sockets : List ℕ) → flat_map (shared_socket_text names (shares_of history)) sockets ≡ flat_map (socket_text names history) sockets
  same_sockets [] = refl
  same_sockets (s ∷ more) =
      ap (λ text. text ++ flat_map (shared_socket_text names (shares_of history)) more) (same_socket s) ∙ ap (λ text. socket_text names history s ++ text) (same_sockets more)
