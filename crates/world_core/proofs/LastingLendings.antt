-- With an entry that begins no lending and ends none, each socket has the lending that its state and its side's offer say, if it had before.
use Rattle.pipe_model.specs.History.{Offered, offered}
use Rattle.pipe_model.specs.declared.entry.Entry.{Entry}
use Rattle.pipe_model.specs.declared.setup.Setup.{Setup}
use Rattle.smc_num.specs.declared.Side.{Side}
use Rattle.smc_num.specs.declared.Side.TheVariants.{A, B}
use Rattle.std.proofs.Common.{Bool, List, [], ap, false, filter, filter_map, if◌then◌else◌, not, refl, sym, true, true≢false, ℕ, ◌++◌, ◌∙◌, ◌∷◌, ◌≡◌}
use Rattle.std.specs.Prelude.{None, Option, Some, is_some, option_map}
use Rattle.world_core.proofs.Handshaken.{shaken}
use Rattle.world_core.proofs.OpenEnds.{stays-out}
use Rattle.world_core.proofs.Parts.{part-open}
use Rattle.world_core.proofs.QuietEntries.{all-stay}
use Rattle.world_core.specs.Managers.{HasLendings, keeps_element, lending_due, lending_on}
use Rattle.world_core.specs.OneLink.{Stage}
use Rattle.world_core.specs.Played.{IsOneLink, IsPlayed}
use Rattle.world_core.specs.Sockets.{HasWorld, IsWorld, early_at, end_at, offered_at}
use Rattle.world_core.specs.Sockets.{Socket, FirstAccepted, FirstConfirmed, AwaitsLink, FirstUpAtA, FirstUp, Accepted, AcceptRefused, AcceptFallen, Confirmed, Up}
use Rattle.world_core.proofs.LendingFacts.{found-lending, lends-for}
use Rattle.pipe_model.specs.Connections.{EndState, HasFallen, end_state, early_state}
use Rattle.world_core.proofs.PlayedWorlds.{played as has-world}
use Rattle.world_core.proofs.LinkFacts.{no-group-ends-with}
use Rattle.pipe_model.specs.Lending.{Lending, lends, lendings, lent, returns, leaves_handshake}
use Rattle.world_core.proofs.TakenMessages.{end-is}

-- whether an end has fallen back
abbrev pub has_fallen : EndState → Bool
has_fallen HasFallen = true
has_fallen _ = false

-- an end that has offered keeps its element until it falls back
keeps-by : (k : Socket) (x : Side) → is_some (offered_at k x) ≡ true → keeps_element (end_at k x) ≡ not (has_fallen (early_at k x))
keeps-by (FirstAccepted o) B e = refl
keeps-by (FirstConfirmed o p) A e = refl
keeps-by (FirstConfirmed o p) B e = refl
keeps-by (AwaitsLink o p) A e = refl
keeps-by (AwaitsLink o p) B e = refl
keeps-by (FirstUpAtA o p) A e = refl
keeps-by (FirstUpAtA o p) B e = refl
keeps-by (FirstUp o p) A e = refl
keeps-by (FirstUp o p) B e = refl
keeps-by (Accepted o) B e = refl
keeps-by (AcceptRefused o r) B e = refl
keeps-by (AcceptFallen o) B e = refl
keeps-by (Confirmed o p) A e = refl
keeps-by (Confirmed o p) B e = refl
keeps-by (Up o p) A e = refl
keeps-by (Up o p) B e = refl
keeps-by _ A e = absurd (true≢false (sym e))
keeps-by _ B e = absurd (true≢false (sym e))

keeps-is : (setup : Setup) (stage : Stage) (past : List Entry) → IsWorld setup stage past → (x : Side) (s : ℕ) → is_some (offered x s past) ≡ true → keeps_element (end_state x s past) ≡ not (has_fallen (early_state x s past))
keeps-is setup stage past w x s e =
    let h = w.sockets s in
    let at = h.stands in
    ap (λ st. keeps_element st) (end-is setup h.at s past at x)
    ∙ (keeps-by h.at x (sym (ap (λ q. is_some q) (at.offer x)) ∙ e)
    ∙ ap (λ st. not (has_fallen st)) (sym (at.early x)))

some-same : (s : ℕ) (a b : Option Offered) → option_map (lends-for s) a ≡ option_map (lends-for s) b → is_some a ≡ is_some b
some-same s None None e = refl
some-same s (Some a) (Some b) e = refl
some-same s None (Some b) e = cc
some-same s (Some a) None e = cc

if-none : (b c : Bool) → (if b then (let n : Option Lending = None in n) else None) ≡ (if c then None else None)
if-none true true = refl
if-none true false = refl
if-none false true = refl
if-none false false = refl

module _ (setup : Setup) (one : IsOneLink setup) (payload : List ℕ) (e : Entry) (past : List Entry) (n : ℕ) (p : IsPlayed setup payload (e ∷ past) n) (was : HasLendings setup payload past)
    (stays : (x : Side) (s : ℕ) → leaves_handshake x s e.event e.reply ≡ false) (none : (x : Side) → filter_map (lends x) e.posts ≡ [])
    (early : (x : Side) (s : ℕ) → is_some (offered x s past) ≡ true → has_fallen (early_state x s (e ∷ past)) ≡ has_fallen (early_state x s past)) where
  abbrev before : HasWorld setup past
  before = has-world setup one payload past p.0 p.3

  abbrev now : HasWorld setup (e ∷ past)
  now = has-world setup one payload (e ∷ past) n p

  returns-none : (x : Side) (k : Lending) → returns setup payload x e past k ≡ false
  returns-none x k =
      let v = before in
      let w = now in
      stays-out setup payload e past x k (stays x k.s) (no-group-ends-with setup v.stage w.stage e past v.world w.world x k.group)
      (part-open setup payload k.group k.s (e ∷ past) n p (shaken setup one payload (e ∷ past) n p))

  lent-same : (x : Side) → lent setup payload x (e ∷ past) ≡ lent setup payload x past
  lent-same x =
      ap (λ (ls : List Lending). ls ++ filter (λ l. not (returns setup payload x e past l)) (lent setup payload x past)) (none x)
      ∙ all-stay (λ l. not (returns setup payload x e past l)) (lent setup payload x past) (λ l. ap (λ b. not b) (returns-none x l))

  lendings-same : (x : Side) → lendings x (e ∷ past) ≡ lendings x past
  lendings-same x = ap (λ (ls : List Lending). ls ++ lendings x past) (none x)

  offer-same : (x : Side) (s : ℕ) → option_map (lends-for s) (offered x s (e ∷ past)) ≡ option_map (lends-for s) (offered x s past)
  offer-same x s = sym (found-lending x s (e ∷ past)) ∙ (ap (λ (ls : List Lending). lending_on s ls) (lendings-same x) ∙ found-lending x s past)

  due-same : (x : Side) (s : ℕ) (b : Bool) → is_some (offered x s past) ≡ b → lending_due x s (e ∷ past) ≡ lending_due x s past
  due-same x s true there =
      let v = before in
      let w = now in
      let there_now : is_some (offered x s (e ∷ past)) ≡ true = some-same s (offered x s (e ∷ past)) (offered x s past) (offer-same x s) ∙ there in
      let keeps : keeps_element (end_state x s (e ∷ past)) ≡ keeps_element (end_state x s past) =
      keeps-is setup w.stage (e ∷ past) w.world x s there_now ∙ (ap (λ b. not b) (early x s there) ∙ sym (keeps-is setup v.stage past v.world x s there)) in
      ap (λ b. if b then option_map (lends-for s) (offered x s (e ∷ past)) else None) keeps
      ∙ ap (λ q. if keeps_element (end_state x s past) then q else None) (offer-same x s)
  due-same x s false gone =
      ap (λ q. if keeps_element (end_state x s (e ∷ past)) then q else None) (offer-same x s ∙ no-offer (offered x s past) gone)
      ∙ (if-none (keeps_element (end_state x s (e ∷ past))) (keeps_element (end_state x s past))
      ∙ ap (λ q. if keeps_element (end_state x s past) then q else None) (sym (no-offer (offered x s past) gone)))
    where
      no-offer : (q : Option Offered) → is_some q ≡ false → option_map (lends-for s) q ≡ None
      no-offer None g = refl
      no-offer (Some r) g = absurd (true≢false g)

  pub lendings-last : HasLendings setup payload (e ∷ past)
  lendings-last = record { each = λ x s. ap (λ (ls : List Lending). lending_on s ls) (lent-same x) ∙ (was.each x s ∙ sym (due-same x s (is_some (offered x s past)) refl)) }
