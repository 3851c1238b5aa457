-- What is read of the messages about keys, and that what is written spells them.
use Rattle.std.proofs.Common.{◌≡◌, ◌∙◌, ℕ, ◌+◌, ◌<◌, ◌≤◌, ◌^◌, Bool, List, [], ◌∷◌, ◌++◌, length, Ok, Err, nat_lt, if◌then◌else◌, refl, sym, ap, append_assoc, lit<, arith}
use Rattle.std.specs.Prelude.{All, slice_index_or}
use Rattle.std.proofs.lemmas.Bool.{le-ltb}
use Rattle.byteorder.specs.Endian.{big_number}
use Rattle.byteorder.specs.Numbers.{big_number-reads_back}
use Rattle.field_cases.specs.Fields.{zeros}
use Rattle.llc_wire.specs.declared.LlcMessage.{LlcMessage}
use Rattle.llc_wire.specs.declared.LlcMessage.TheVariants.{AddKeys, ConfirmRkey, DeleteRkey}
use Rattle.llc_wire.specs.declared.LlcFault.TheVariants.{BadCount}
use Rattle.llc_wire.specs.declared.NewKey.{NewKey}
use Rattle.llc_wire.specs.declared.KeyToken.{KeyToken}
use Rattle.llc_wire.specs.Frame.{flag}
use Rattle.llc_wire.specs.AddKeys.{add_keys_around, add_keys_bytes, new_key_bytes, IsNewKey, SpellsAddKeys}
use Rattle.llc_wire.specs.ConfirmRkey.{confirm_rkey_bytes, no_token, IsToken, SpellsConfirmRkey}
use Rattle.llc_wire.specs.DeleteRkey.{delete_rkey_around, delete_rkey_bytes, keys_bytes, SpellsDeleteRkey}
use Rattle.llc_wire.specs.Llc.{llc_read}
use Rattle.llc_wire.proofs.Fields.{regrouped, drop-run, is_set-flag, reply_negative, reply_negative_retry}

-- a count that has room is no fault
no_fault : (most count : ℕ) (m : LlcMessage) → count ≤ most → (if nat_lt most count then Err (BadCount count) else Ok m) ≡ Ok m
no_fault most count m room = ap (λ b. if b then Err (BadCount count) else Ok m) (le-ltb most count room)

-- ADD LINK CONTINUATION
pub add_keys_read_back : (bytes : List ℕ) (reply : Bool) (link count : ℕ) (keys : List NewKey) → length keys ≡ 2 → All IsNewKey keys → count ≤ 2
    → SpellsAddKeys bytes reply link count keys → llc_read bytes ≡ Ok (AddKeys reply link count keys)
add_keys_read_back bytes reply link count (a ∷ b ∷ []) two w room s =
    let entries = new_key_bytes a ++ (new_key_bytes b ++ s.rest) in
    let right : add_keys_around s.second s.flags s.two s.rest link count (a ∷ b ∷ []) ≡ 3 ∷ 44 ∷ s.second ∷ s.flags ∷ link ∷ count ∷ (s.two ++ entries) =
    ap (λ xs. 3 ∷ 44 ∷ s.second ∷ s.flags ∷ link ∷ count ∷ xs) (regrouped s.two (new_key_bytes a) (new_key_bytes b) s.rest) in
    let at = λ (k : ℕ). drop-run 2 k s.two entries s.two_length in
    let a_reference = ap (big_number 4) (at 0) ∙ big_number-reads_back 4 a.reference [] (w 0 a (lit< tt)).reference in
    let a_fresh = ap (big_number 4) (at 4) ∙ big_number-reads_back 4 a.fresh [] (w 0 a (lit< tt)).fresh in
    let a_address = ap (big_number 8) (at 8) ∙ big_number-reads_back 8 a.address [] (w 0 a (lit< tt)).address in
    let b_reference = ap (big_number 4) (at 16) ∙ big_number-reads_back 4 b.reference [] (w 1 b (lit< tt)).reference in
    let b_fresh = ap (big_number 4) (at 20) ∙ big_number-reads_back 4 b.fresh [] (w 1 b (lit< tt)).fresh in
    let b_address = ap (big_number 8) (at 24) ∙ big_number-reads_back 8 b.address [] (w 1 b (lit< tt)).address in
    ap llc_read (s.are ∙ right)
    ∙ (no_fault 2 count _ room
    ∙ (λ i. Ok (AddKeys (s.reply_flag i) link count
    (record { reference = a_reference i; fresh = a_fresh i; address = a_address i } ∷ record { reference = b_reference i; fresh = b_fresh i; address = b_address i } ∷ []))))
add_keys_read_back bytes reply link count [] two w room s = absurd (omega arith)
add_keys_read_back bytes reply link count (a ∷ []) two w room s = absurd (omega arith)
add_keys_read_back bytes reply link count (a ∷ b ∷ c ∷ more) two w room s = absurd (omega arith)

pub add_keys_written : (reply : Bool) (link count : ℕ) (keys : List NewKey) → SpellsAddKeys (add_keys_bytes reply link count keys) reply link count keys
add_keys_written reply link count keys = record { second = 0; flags = flag reply 0x80; two = zeros 2; rest = zeros 4; reply_flag = is_set-flag reply; two_length = refl; rest_length = refl; are = refl }

-- CONFIRM RKEY
pub confirm_rkey_read_back : (bytes : List ℕ) (reply retry negative : Bool) (others : ℕ) (tokens : List KeyToken) → length tokens ≡ 3 → All IsToken tokens → others ≤ 2
    → (slice_index_or tokens 0 no_token).number ≡ others → SpellsConfirmRkey bytes reply retry negative others tokens → llc_read bytes ≡ Ok (ConfirmRkey reply retry negative others tokens)
confirm_rkey_read_back bytes reply retry negative others (a ∷ b ∷ c ∷ []) three w room first s =
    let number = sym first in
    let a_key = big_number-reads_back 4 a.key [] (w 0 a (lit< tt)).key in
    let a_address = big_number-reads_back 8 a.address [] (w 0 a (lit< tt)).address in
    let b_key = big_number-reads_back 4 b.key [] (w 1 b (lit< tt)).key in
    let b_address = big_number-reads_back 8 b.address [] (w 1 b (lit< tt)).address in
    let c_key = big_number-reads_back 4 c.key [] (w 2 c (lit< tt)).key in
    let c_address = big_number-reads_back 8 c.address [] (w 2 c (lit< tt)).address in
    ap llc_read s.are
    ∙ (no_fault 2 others _ room
    ∙ (λ i. Ok (ConfirmRkey (s.reply_flag i) (s.retry_flag i) (s.negative_flag i) others
    (record { number = number i; key = a_key i; address = a_address i } ∷ record { number = b.number; key = b_key i; address = b_address i } ∷ record { number = c.number; key = c_key i; address = c_address i } ∷ []))))
confirm_rkey_read_back bytes reply retry negative others [] three w room first s = absurd (omega arith)
confirm_rkey_read_back bytes reply retry negative others (a ∷ []) three w room first s = absurd (omega arith)
confirm_rkey_read_back bytes reply retry negative others (a ∷ b ∷ []) three w room first s = absurd (omega arith)
confirm_rkey_read_back bytes reply retry negative others (a ∷ b ∷ c ∷ d ∷ more) three w room first s = absurd (omega arith)

pub confirm_rkey_written : (reply retry negative : Bool) (others : ℕ) (tokens : List KeyToken) → SpellsConfirmRkey (confirm_rkey_bytes reply retry negative others tokens) reply retry negative others tokens
confirm_rkey_written reply retry negative others tokens =
    let flags = reply_negative_retry reply negative retry in
    record {
      second = 0;
      flags = flag reply 0x80 + flag negative 0x20 + flag retry 0x10;
      rest = zeros 1;
      reply_flag = flags.a_back;
      retry_flag = flags.c_back;
      negative_flag = flags.b_back;
      rest_length = refl;
      are = refl;
    }

-- DELETE RKEY
pub delete_rkey_read_back : (bytes : List ℕ) (reply negative : Bool) (count mask : ℕ) (keys : List ℕ) → length keys ≡ 8 → All (λ key. key < 2 ^ 32) keys → count ≤ 8
    → SpellsDeleteRkey bytes reply negative count mask keys → llc_read bytes ≡ Ok (DeleteRkey reply negative count mask keys)
delete_rkey_read_back bytes reply negative count mask (a ∷ b ∷ c ∷ d ∷ e ∷ f ∷ g ∷ h ∷ []) eight w room s =
    let keys : List ℕ = a ∷ b ∷ c ∷ d ∷ e ∷ f ∷ g ∷ h ∷ [] in
    let entries = keys_bytes keys ++ s.rest in
    let right : delete_rkey_around s.second s.flags s.two s.rest count mask keys ≡ 9 ∷ 44 ∷ s.second ∷ s.flags ∷ count ∷ mask ∷ (s.two ++ entries) =
    ap (λ xs. 9 ∷ 44 ∷ s.second ∷ s.flags ∷ count ∷ mask ∷ xs) (append_assoc s.two (keys_bytes keys) s.rest) in
    let at = λ (k : ℕ). drop-run 2 k s.two entries s.two_length in
    let a_at = ap (big_number 4) (at 0) ∙ big_number-reads_back 4 a [] (w 0 a (lit< tt)) in
    let b_at = ap (big_number 4) (at 4) ∙ big_number-reads_back 4 b [] (w 1 b (lit< tt)) in
    let c_at = ap (big_number 4) (at 8) ∙ big_number-reads_back 4 c [] (w 2 c (lit< tt)) in
    let d_at = ap (big_number 4) (at 12) ∙ big_number-reads_back 4 d [] (w 3 d (lit< tt)) in
    let e_at = ap (big_number 4) (at 16) ∙ big_number-reads_back 4 e [] (w 4 e (lit< tt)) in
    let f_at = ap (big_number 4) (at 20) ∙ big_number-reads_back 4 f [] (w 5 f (lit< tt)) in
    let g_at = ap (big_number 4) (at 24) ∙ big_number-reads_back 4 g [] (w 6 g (lit< tt)) in
    let h_at = ap (big_number 4) (at 28) ∙ big_number-reads_back 4 h [] (w 7 h (lit< tt)) in
    ap llc_read (s.are ∙ right)
    ∙ (no_fault 8 count _ room
    ∙ (λ i. Ok (DeleteRkey (s.reply_flag i) (s.negative_flag i) count mask (a_at i ∷ b_at i ∷ c_at i ∷ d_at i ∷ e_at i ∷ f_at i ∷ g_at i ∷ h_at i ∷ []))))
delete_rkey_read_back bytes reply negative count mask [] eight w room s = absurd (omega arith)
delete_rkey_read_back bytes reply negative count mask (a ∷ []) eight w room s = absurd (omega arith)
delete_rkey_read_back bytes reply negative count mask (a ∷ b ∷ []) eight w room s = absurd (omega arith)
delete_rkey_read_back bytes reply negative count mask (a ∷ b ∷ c ∷ []) eight w room s = absurd (omega arith)
delete_rkey_read_back bytes reply negative count mask (a ∷ b ∷ c ∷ d ∷ []) eight w room s = absurd (omega arith)
delete_rkey_read_back bytes reply negative count mask (a ∷ b ∷ c ∷ d ∷ e ∷ []) eight w room s = absurd (omega arith)
delete_rkey_read_back bytes reply negative count mask (a ∷ b ∷ c ∷ d ∷ e ∷ f ∷ []) eight w room s = absurd (omega arith)
delete_rkey_read_back bytes reply negative count mask (a ∷ b ∷ c ∷ d ∷ e ∷ f ∷ g ∷ []) eight w room s = absurd (omega arith)
delete_rkey_read_back bytes reply negative count mask (a ∷ b ∷ c ∷ d ∷ e ∷ f ∷ g ∷ h ∷ i ∷ more) eight w room s = absurd (omega arith)

pub delete_rkey_written : (reply negative : Bool) (count mask : ℕ) (keys : List ℕ) → SpellsDeleteRkey (delete_rkey_bytes reply negative count mask keys) reply negative count mask keys
delete_rkey_written reply negative count mask keys = record {
  second = 0;
  flags = flag reply 0x80 + flag negative 0x20;
  two = zeros 2;
  rest = zeros 4;
  reply_flag = (reply_negative reply negative).0;
  negative_flag = (reply_negative reply negative).1;
  two_length = refl;
  rest_length = refl;
  are = refl;
}
