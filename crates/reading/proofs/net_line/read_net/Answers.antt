use Rattle.std.proofs.Common.{◌≡◌, Some, Ok, Err, inl, inr, ⊎_elim, vec_items, rules}
use Rattle.reading.specs.Nets.{net_read}
use Rattle.script.specs.Words.{word_bytes}
use Rattle.reading.proofs.Slashed.{started, headed, failed}
use Rattle.reading.proofs.net_line.read_net.Goals as goal

pub returns-in_err-starts : goal.returns-in_err-starts
returns-in_err-starts c =
    failed _ (net_read (word_bytes c.args.words.now)) c.from_residual.result c.in_err-starts.field-0.0 (search rules)
    (⊎_elim inl (λ e. inr (started c.args.words.now c.slash-slash.result c.slash-slash.ensures c.unwrap_or.result c.unwrap_or.ensures (Err c.in_err-starts.field-0.0) e)) c.in_err-starts.ensures)

pub returns-in_err-heads : goal.returns-in_err-heads
returns-in_err-heads c =
    let o : c.slash-slash.result ≡ Some c.in_ok-at.at = search rules in
    failed _ (net_read (word_bytes c.args.words.now)) c.from_residual-in_err-heads.result c.in_err-heads.field-0.0 (search rules)
    (⊎_elim inl
    (λ e. inr (headed c.args.words.now c.slash-slash.result c.slash-slash.ensures c.unwrap_or.result c.unwrap_or.ensures (vec_items c.in_ok-starts.starts) c.in_ok-starts.ensures
    c.in_ok-at.at (Err c.in_err-heads.field-0.0) o e))
    c.in_err-heads.ensures)

pub returns : goal.returns
returns c =
    let o : c.slash-slash.result ≡ Some c.in_ok-at.at = search rules in
    headed c.args.words.now c.slash-slash.result c.slash-slash.ensures c.unwrap_or.result c.unwrap_or.ensures (vec_items c.in_ok-starts.starts) c.in_ok-starts.ensures
    c.in_ok-at.at (Ok (vec_items c.in_ok-heads.heads)) o c.in_ok-heads.ensures
