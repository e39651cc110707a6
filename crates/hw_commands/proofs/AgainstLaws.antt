-- A log against the node of a certificate: the audit as the definitions have it, and what a conflict shows.
use Rattle.std.proofs.Common.{◌≡◌, ℕ, zero, suc, ◌<◌, inl, inr, Bool, true, false, List, [], ◌∷◌, ◌++◌, length, Option, Some, None, Result, Ok, Err, refl, sym, ap, subst, ◌∙◌, arith}
use Rattle.std.specs.Prelude.{find, codes, IfOk}
use Rattle.std.specs.List.{list_any}
use Rattle.std.specs.Option.{option_map, option_or}
use lib.Pointwise.{bytes_decides}
use Rattle.hw_types.specs.declared.unit.Digest.{Digest}
use Rattle.hw_types.specs.declared.unit.Vertex.{Vertex}
use Rattle.hw_types.specs.declared.unit.SignedUnit.{SignedUnit}
use Rattle.hw_types.specs.declared.config.Config.{Config}
use Rattle.hw_types.specs.declared.answers.CodecError.{CodecError}
use Rattle.hw_types.specs.declared.answers.Decision.{Decision}
use Rattle.hw_types.specs.Below.{Among}
use Rattle.hw_types.specs.Decisions.{AreDecisions}
use Rattle.hw_types.specs.Spelling.{config_bytes}
use Rattle.hw_types.specs.Reading.{Rest, vertex_of}
use Rattle.hw_types.specs.Journal.{Setting, named, clashes, journal_of}
use Rattle.hw_types.specs.Real.{CoreState, setting_of}
use Rattle.hw_types.proofs.EntryLaws.{append_cases, map_among}
use Rattle.hw_types.proofs.PastLaws.{some_of}
use Rattle.hw_safety.specs.Decided.{decisions_of}
use Rattle.hw_safety.proofs.DecidedLaws.{decisions_are}
use Rattle.hw_safety.proofs.HeightLaws.{one_block_each}
use Rattle.hw_safety.specs.declared.verdict.Verdict.TheVariants as verdict
use Rattle.hw_safety.specs.Verdicts.{held_in, journals_clash, chain_of, culprit_weight, AreInConflict}
use Rattle.hw_safety.proofs.ApartLaws.{conflict as conflict_accountable}
use Rattle.hw_safety.proofs.ClashLaws.{held_among}
use Rattle.hw_safety.proofs.PairLaws.{delivered_signed}
use Rattle.hw_safety.proofs.ShownLaws.{found as culprits_found}
use Rattle.hw_agree.specs.Certificates.{delivered as delivered_true}
use Rattle.hw_core.proofs.EndLaws.{all_at}
use Rattle.hw_audit.specs.declared.chains.Parting.{Parting}
use Rattle.hw_audit.specs.Clashes.{UnitPair, clash_with}
use Rattle.hw_audit.specs.First.{first_among, first_of}
use Rattle.hw_audit.specs.Chains.{parting_of}
use Rattle.hw_audit.specs.Text.{audit_text}
use Rattle.hw_audit.proofs.ChainLaws.{part_differs}
use Rattle.hw_audit.proofs.ToldLaws.{AreSigned, conflict_told}
use Rattle.hw_replay.specs.Taken.{Taken}
use Rattle.hw_replay.specs.Replay.{same_config, replay_of}
use Rattle.hw_replay.specs.Laws.{IsSigned, IsReplayed}
use Rattle.hw_replay.proofs.SignedLaws.{whole_signed}
use Rattle.hw_light.specs.declared.certificate.Certificate.{Certificate}
use Rattle.hw_light.specs.declared.error.CertError.{CertError}
use Rattle.hw_light.specs.declared.error.CertError.TheVariants.{BadVertex}
use Rattle.hw_light.specs.Reading.{◌>>=◌, decoded, part_at, vertex_at, vertices_at, certificate_of, behind_magic, behind_version, config_at, field_at, count_at, ended_at}
use Rattle.hw_light.specs.Checked.{IsCertified}
use Rattle.hw_light.proofs.DeliveredLaws.{found}
use Rattle.hw_light.specs.Spelling.{CertificateInRange}
use Rattle.hw_codec.specs.Ranges.{SignedInRange, VertexInRange}
use Rattle.hw_types.specs.declared.unit.Vertex.TheVariants as vertex
use Rattle.hw_safety.specs.Verdicts.{IsVerdict}
use Rattle.hw_replay.specs.declared.fault.StartFault.{StartFault}
use Rattle.hw_replay.specs.declared.fault.StartFault.TheVariants as start
use Rattle.hw_replay.specs.declared.replay.Replay.{Replay}
use Rattle.hw_replay.specs.Replay.{taken_in, Replays, IsOutside}
use Rattle.hw_replay.proofs.DeliveredLaws.{replay_delivers}
use Rattle.hw_commands.specs.declared.ended.Ended.{Ended}
use Rattle.hw_commands.specs.declared.ended.RunFault.{RunFault}
use Rattle.hw_commands.specs.Commands.{Word}
use Rattle.hw_commands.specs.Faults.{IsReadEnd}
use Rattle.hw_commands.specs.Texts.{input_ended, clash_ended, stopped_ended, read_fault_ended}
use Rattle.hw_commands.specs.Program.{◌>>=◌ as ◌>>=p◌, Held, Part, ended, or_parted, audited_with}
use Rattle.hw_commands.specs.Shown.{IsAlike}
use Rattle.hw_commands.specs.Audited.{chains_ended, clash_or, audit_ended, TellsVerdict}
use Rattle.hw_commands.proofs.FaultLaws.{input_status}
use Rattle.hw_commands.proofs.VerdictLaws.{verdict_told}
use Rattle.hw_commands.proofs.MadeLaws.{wanted_is}
use Rattle.hw_commands.proofs.FileLaws.{took_file}

-- ---- the vertices of a certificate that was read are signed

bind_ok : {A B : Type 0} (r : Result A CertError) (f : A → Result B CertError) (y : B) → (r >>= f) ≡ Ok y → (x : A) × (r ≡ Ok x) × (f x ≡ Ok y)
bind_ok (Ok x) f y h = (x, refl, h)
bind_ok (Err e) f y h = absurd cc

decoded_ok : {A : Type 0} (wrap : CodecError → CertError) (r : Result A CodecError) (x : A) → decoded wrap r ≡ Ok x → r ≡ Ok x
decoded_ok wrap (Ok y) x h = (let same : y ≡ x = cc in ap Ok same)
decoded_ok wrap (Err e) x h = absurd cc

vertex_signed : (r : Rest) (v : Vertex × Rest) → vertex_at r ≡ Ok v → IsSigned v.0
unfolding vertex_at
vertex_signed r v h =
    let part = bind_ok (part_at r) _ v h in
    let read = bind_ok (decoded (BadVertex r.place) (vertex_of part.0.0)) _ v part.2 in
    let same : (read.0, part.0.1) ≡ v = cc in
    subst IsSigned (ap (λ (w : Vertex × Rest). w.0) same) (whole_signed part.0.0 read.0 (decoded_ok (BadVertex r.place) (vertex_of part.0.0) read.0 read.1))

vertices_signed : (n : ℕ) (r : Rest) (vs : List Vertex × Rest) → vertices_at n r ≡ Ok vs → (v : Vertex) → Among v vs.0 → IsSigned v
unfolding vertices_at
vertices_signed zero r vs h v m = absurd (let same : ([], r) ≡ vs = cc in subst (λ (ws : List Vertex × Rest). Among v ws.0) (sym same) m)
vertices_signed (suc n) r vs h v m =
    let first = bind_ok (vertex_at r) _ vs h in
    let others = bind_ok (vertices_at n first.0.1) _ vs first.2 in
    let same : (first.0.0 ∷ others.0.0, others.0.1) ≡ vs = cc in
    elim (subst (λ (ws : List Vertex × Rest). Among v ws.0) (sym same) m) [
      | inl is ↦ subst IsSigned is (vertex_signed r first.0 first.1)
      | inr more ↦ vertices_signed n first.0.1 others.0 others.1 v more
    ]

vertices_or : List Vertex → Result Certificate CertError → List Vertex
vertices_or vs (Ok c) = c.vertices
vertices_or vs (Err e) = vs

pub read_signed : (bytes : List ℕ) (c : Certificate) → certificate_of bytes ≡ Ok c → (v : Vertex) → Among v c.vertices → IsSigned v
unfolding certificate_of vertices_or
read_signed bytes c h v m =
    let magic = bind_ok (behind_magic bytes) _ c h in
    let version = bind_ok (behind_version magic.0) _ c magic.2 in
    let config = bind_ok (config_at version.0) _ c version.2 in
    let block = bind_ok (field_at 32 config.0.1) _ c config.2 in
    let count = bind_ok (count_at 131072 block.0.1) _ c block.2 in
    let vertices = bind_ok (vertices_at count.0.0 count.0.1) _ c count.2 in
    let end = bind_ok (ended_at vertices.0.1) _ c vertices.2 in
    let same : vertices.0.0 ≡ c.vertices = ap (λ (r : Result Certificate CertError). vertices_or [] r) end.2 in
    vertices_signed count.0.0 count.0.1 vertices.0 vertices.1 v (subst (λ (vs : List Vertex). Among v vs) (sym same) m)

-- ---- the two journals

-- of a log and of a certificate, each unit is signed
pub both_signed : (wanted : Option Config) (bytes : List ℕ) (t : Taken) (c : Certificate) (core : CoreState) → IsReplayed wanted bytes t → IsCertified c core → ((v : Vertex) → Among v c.vertices → IsSigned v)
    → AreSigned (t.core.journal ++ core.journal)
both_signed wanted bytes t c core r is signed s m =
    let held = held_among s (t.core.journal ++ core.journal) m in
    elim (append_cases held.0 t.core.journal core.journal held.1) [
      | inl left ↦ r.signed held.0 left s held.2
      | inr right ↦
          (let there = subst (λ (j : List Vertex). Among held.0 j) is.journal right in
          let given = delivered_signed (setting_of c.config) (delivered_true c.vertices) held.0 there in
          let from = map_among (λ (v : Vertex). (v, true)) (held.0, true) c.vertices given in
          signed held.0 (subst (λ (v : Vertex). Among v c.vertices) (ap (λ (d : Vertex × Bool). d.0) from.2) from.1) s held.2)
    ]

-- ---- which case it is

first_has : (s : Setting) (ls us : List SignedUnit) (v w : SignedUnit) → Among v ls → Among w us → clashes s v.unit (named s w.unit) ≡ true → first_among s ls us ≡ None → ⊥
first_has s ls [] v w m n h e = absurd n
first_has s ls (u ∷ us) v w m (inl same) h e =
    let there = found (λ (x : SignedUnit). clashes s x.unit (named s u.unit)) v ls m (subst (λ (y : SignedUnit). clashes s v.unit (named s y.unit) ≡ true) (sym same) h) in
    let some : first_among s ls (u ∷ us) ≡ Some (record { left = there.0.unit; right = u.unit })
    = ap (λ (o : Option SignedUnit). option_or (clash_with (option_map (λ (x : SignedUnit). x.unit) o) u.unit) (first_among s ls us)) there.1 in
    absurd (let bad = sym e ∙ some in cc)
first_has s ls (u ∷ us) v w m (inr later) h e = go (first_has s ls us v w m later h) (clash_with (option_map (λ (x : SignedUnit). x.unit) (find (λ (x : SignedUnit). clashes s x.unit (named s u.unit)) ls)) u.unit) e
  where
    go : (first_among s ls us ≡ None → ⊥) → (o : Option UnitPair) → option_or o (first_among s ls us) ≡ None → ⊥
    go none None f = none f
    go none (Some p) f = absurd cc

-- where none is the first, the test finds none
first_none : (s : Setting) (left right : List Vertex) → first_of s left right ≡ None → journals_clash s left right ≡ false
unfolding journals_clash
first_none s left right e = go (journals_clash s left right) refl
  where
    go : (b : Bool) → journals_clash s left right ≡ b → b ≡ false
    go false h = refl
    go true h =
        let v = some_of (λ (u : SignedUnit). list_any (λ (w : SignedUnit). clashes s u.unit (named s w.unit)) (held_in right)) (held_in left) h in
        let w = some_of (λ (w : SignedUnit). clashes s v.0.unit (named s w.unit)) (held_in right) v.2 in
        absurd (first_has s (held_in left) (held_in right) v.0 w.0 v.1 w.1 w.2 e)

clash_nine : (a b : List ℕ) → (clash_ended a b).status ≡ 9
unfolding clash_ended
clash_nine a b = refl

module _ (s : Setting) (left right : List Vertex) where
  abbrev dl : List Decision
  dl = decisions_of s left

  abbrev dr : List Decision
  dr = decisions_of s right

  abbrev by_chains : Ended
  by_chains = chains_ended s left right (parting_of (chain_of dl) (chain_of dr))

  pub record Parts : Type 0 where
    pub no_clash : journals_clash s left right ≡ false
    pub parting : Parting
    pub parting_is : parting_of (chain_of dl) (chain_of dr) ≡ Some parting
    pub ended : audit_ended s left right ≡ chains_ended s left right (Some parting)

  -- an audit that is a conflict has no clash, and the chains part
  pub parts : (audit_ended s left right).status ≡ 3 → Parts
  unfolding audit_ended
  parts three = by_first (first_of s left right) refl three
    where
      by_part : first_of s left right ≡ None → (o : Option Parting) → parting_of (chain_of dl) (chain_of dr) ≡ o → (chains_ended s left right o).status ≡ 3 → Parts
      by_part none None e status = let bad : ◌≡◌ {A = ℕ} 0 3 = status in absurd (omega (arith, bad))
      by_part none (Some p) e status = record {
        no_clash = first_none s left right none;
        parting = p;
        parting_is = e;
        ended = ap (λ (o : Option UnitPair). clash_or o by_chains) none ∙ ap (chains_ended s left right) e;
      }

      by_first : (o : Option UnitPair) → first_of s left right ≡ o → (clash_or o by_chains).status ≡ 3 → Parts
      by_first None none status = by_part none (parting_of (chain_of dl) (chain_of dr)) refl status
      by_first (Some p) e status =
          let bad : ◌≡◌ {A = ℕ} 9 3 = sym (clash_nine (Rattle.hw_types.specs.Spelling.unit_bytes p.left) (Rattle.hw_types.specs.Spelling.unit_bytes p.right)) ∙ status in absurd (omega (arith, bad))

-- ---- the conflict

-- what two journals that deliveries made show whose audit is a conflict
pub record IsConflict (config : Config) (left right : List Vertex) (text : List ℕ) : Type 0 where
  pub no_clash : journals_clash (setting_of config) left right ≡ false
  pub height : ℕ
  pub left_block : Digest
  pub right_block : Digest
  pub culprits : List Rattle.hw_types.specs.declared.answers.Culprit.Culprit
  pub weight : ℕ
  pub conflict : AreInConflict (setting_of config) left right (decisions_of (setting_of config) left) (decisions_of (setting_of config) right) (record { height = height; left_block = left_block; right_block = right_block; culprits = culprits; weight = weight })
  pub exceeds : config.ftt < weight
  pub told : text ≡ audit_text config.ftt (verdict.Conflict height left_block right_block culprits weight)

module _ (config : Config) (ls rs : List (Vertex × Bool)) where
  abbrev s : Setting
  s = setting_of config

  abbrev left : List Vertex
  left = journal_of s ls

  abbrev right : List Vertex
  right = journal_of s rs

  are : (journal : List Vertex) → AreDecisions s journal (decisions_of s journal)
  are journal = decisions_are s journal (one_block_each s journal)

  pub conflict_shown : AreSigned (left ++ right) → (audit_ended s left right).status ≡ 3 → IsConflict config left right (audit_ended s left right).text
  conflict_shown signed three =
      let p = parts s left right three in
      let cs = culprits_found s left right in
      let differ = part_differs (decisions_of s left) (decisions_of s right) p.parting p.parting_is in
      let weight = culprit_weight s left right in
      let shown : AreInConflict s left right (decisions_of s left) (decisions_of s right) (record { height = p.parting.height; left_block = p.parting.left; right_block = p.parting.right; culprits = cs.0; weight = weight }) = record { blocks = differ; culprits_are = cs.1; weight_is = refl } in
      record {
        no_clash = p.no_clash;
        height = p.parting.height;
        left_block = p.parting.left;
        right_block = p.parting.right;
        culprits = cs.0;
        weight = weight;
        conflict = shown;
        exceeds = conflict_accountable s ls rs (decisions_of s left) (decisions_of s right) p.parting.height p.parting.left p.parting.right cs.0 weight (are left) (are right) (p.no_clash, shown);
        told = ap (λ (e : Ended). e.text) p.ended ∙ sym (conflict_told config left right signed (decisions_of s left) (decisions_of s right) p.parting.height p.parting.left p.parting.right cs.0 weight shown);
      }

-- ---- configurations that are spelled alike

pub same_config_back : (c d : Config) → same_config c d ≡ true → same_config d c ≡ true
same_config_back c d h = (bytes_decides (config_bytes d) (config_bytes c)).1 (sym ((bytes_decides (config_bytes c) (config_bytes d)).0 h))

-- ---- the audit as the definitions have it

-- by what the values of its fields hold, each vertex of a certificate is signed
signed_range : (s : SignedUnit) → SignedInRange s → length s.signature.0 ≡ 32
signed_range s range = range.signature.size

range_signed : (v : Vertex) → VertexInRange v → IsSigned v
range_signed (vertex.Unit s) range u (inl same) = subst (λ (w : SignedUnit). length w.signature.0 ≡ 32) same (signed_range s range)
range_signed (vertex.Unit s) range u (inr never) = absurd never
range_signed (vertex.Evidence e) range u (inl same) = subst (λ (w : SignedUnit). length w.signature.0 ≡ 32) same (signed_range e.left range.0)
range_signed (vertex.Evidence e) range u (inr (inl same)) = subst (λ (w : SignedUnit). length w.signature.0 ≡ 32) same (signed_range e.right range.1)
range_signed (vertex.Evidence e) range u (inr (inr never)) = absurd never
range_signed (vertex.Endorsement e) range u m = absurd m

in_range_signed : (c : Certificate) → CertificateInRange c → (v : Vertex) → Among v c.vertices → IsSigned v
in_range_signed c range v m = range_signed v (all_at VertexInRange c.vertices range.vertices v m)

module _ (held : Held) (file : Word) (c : Certificate) (core : CoreState) (name : Word) (is : IsCertified c core) where
  abbrev of_taken : Result Taken StartFault → Ended
  of_taken r = ended (or_parted file name r >>=p λ t. Ok (audit_ended (setting_of c.config) t.core.journal core.journal))

  abbrev of_log : Option (List ℕ) → Ended
  of_log o = ended (elim o as (λ z. Part (List ℕ)) [ None ↦ Err read_fault_ended | Some bytes ↦ Ok bytes ] >>=p λ bytes. or_parted file name (replay_of (Some c.config) bytes) >>=p λ t. Ok (audit_ended (setting_of c.config) t.core.journal core.journal))

  abbrev pub IsAuditedWith : Ended → Type 0
  IsAuditedWith e = (e ≡ ended (audited_with held file c core name)) × IsAlike held c (Some name)

  -- the log was replayed
  with_replay : CertificateInRange c → (replay : Replay) (e : Ended) → Replays (Some core.config) (held name) (Ok replay) → (same_config replay.core.config core.config ≡ true → TellsVerdict replay.core core e) → IsAuditedWith e
  with_replay range replay e took tells =
      let t = taken_in replay in
      let there = took_file (Some core.config) (held name) replay took in
      let q = replay_delivers (Some core.config) there.bytes t there.took in
      let told = tells (same_config_back core.config t.core.config (wanted_is core.config there.bytes t q)) in
      let signed = both_signed (Some core.config) there.bytes t c core q is (in_range_signed c range) in
      let g = t.core.config in
      let verdict_is = subst (λ (k : Config). IsVerdict (setting_of g) t.core.journal core.journal (decisions_of (setting_of g) t.core.journal) (decisions_of (setting_of k) core.journal) told.told) (sym told.one_config) told.is_verdict in
      let log = subst (λ (k : Config). replay_of (Some k) there.bytes ≡ Ok t) is.config there.took in
      let same : g ≡ c.config = told.one_config ∙ is.config in (
        told.ended ∙ verdict_told g t.core.journal core.journal signed told.told verdict_is told.shows_first
            ∙ ap (λ (k : Config). audit_ended (setting_of k) t.core.journal core.journal) same
            ∙ sym (ap of_log there.file_is ∙ ap of_taken log),
        λ bytes u at given.
            let one : Some bytes ≡ Some there.bytes = sym at ∙ there.file_is in
            let bytes_same : bytes ≡ there.bytes = cc in
            let both : Ok u ≡ Ok t = sym given ∙ ap (replay_of (Some c.config)) bytes_same ∙ log in
            let taken_same : u ≡ t = cc in
            ap (λ (w : Taken). w.core.config) taken_same ∙ same,
      )

  -- or it was stopped
  with_stop : (fault : StartFault) (e : Ended) → Replays (Some core.config) (held name) (Err fault) → (IsOutside fault → ⊥) → Err e ≡ or_parted file name (Err fault) → IsAuditedWith e
  with_stop fault e stops inside line = go (held name) refl stops
    where
      go : (o : Option (List ℕ)) → held name ≡ o → Replays (Some core.config) o (Err fault) → IsAuditedWith e
      go None at out = absurd (inside out)
      go (Some bytes) at (inl out) = absurd (inside out)
      go (Some bytes) at (inr said) =
          let log = subst (λ (k : Config). replay_of (Some k) bytes ≡ Err fault) is.config said in (
            ap (λ (p : Part Taken). ended (p >>=p λ t. Ok (audit_ended (setting_of c.config) t.core.journal core.journal))) line ∙ sym (ap of_log at ∙ ap of_taken log),
            λ other u here given.
                let one : Some other ≡ Some bytes = sym here ∙ at in
                let bytes_same : other ≡ bytes = cc in
                let both : Ok u ≡ Err fault = sym given ∙ ap (replay_of (Some c.config)) bytes_same ∙ log in
                absurd cc,
          )

  pub audited_beside : CertificateInRange c → (replay : Replay) (r : Result Ended RunFault) → Replays (Some core.config) (held name) (Ok replay)
      → IfOk r (λ e. same_config replay.core.config core.config ≡ true → TellsVerdict replay.core core e) → IfOk r IsAuditedWith
  audited_beside range replay (Ok e) took tells = with_replay range replay e took tells
  audited_beside range replay (Err f) took tells = tt

  pub stopped_beside : (fault : StartFault) (r : Result Ended RunFault) → Replays (Some core.config) (held name) (Err fault)
      → IfOk r (λ e. (Err e ≡ or_parted file name (Err fault)) × IsReadEnd e.status × (IsOutside fault → ⊥)) → IfOk r IsAuditedWith
  stopped_beside fault (Ok e) stops said = with_stop fault e stops said.2 said.0
  stopped_beside fault (Err f) stops said = tt

-- both parts of what is said
pub audited_said : (held : Held) (file : Word) (c : Certificate) (core : CoreState) (name : Word) (is : IsCertified c core) (r : Result Ended RunFault) → IfOk r (IsAuditedWith held file c core name is) → IfOk r (λ e. e ≡ ended (audited_with held file c core name))
audited_said held file c core name is (Ok e) both = both.0
audited_said held file c core name is (Err f) both = tt

pub audited_alike : (held : Held) (file : Word) (c : Certificate) (core : CoreState) (name : Word) (is : IsCertified c core) (r : Result Ended RunFault) → IfOk r (IsAuditedWith held file c core name is) → IfOk r (λ e. IsAlike held c (Some name))
audited_alike held file c core name is (Ok e) both = both.1
audited_alike held file c core name is (Err f) both = tt

-- ---- the line of what stopped it

parted : (file name : Word) (fault : StartFault) → (fault ≡ start.OtherConfig → ⊥) → or_parted file name (Err fault) ≡ Err (stopped_ended name fault)
parted file name (start.Log e) other = refl
parted file name start.OtherConfig other = absurd (other refl)
parted file name (start.Clash known new) other = refl
parted file name (start.RecordsFull place) other = refl
parted file name (start.ParkFull place) other = refl
parted file name start.OutOfMemory other = refl

pub parted_said : (file name : Word) (fault : StartFault) (r : Result Ended RunFault) → (fault ≡ start.OtherConfig → ⊥) → IfOk r (λ e. (e ≡ stopped_ended name fault) × IsReadEnd e.status × (IsOutside fault → ⊥))
    → IfOk r (λ e. (Err e ≡ or_parted file name (Err fault)) × IsReadEnd e.status × (IsOutside fault → ⊥))
parted_said file name fault (Ok e) other said = (ap Err said.0 ∙ sym (parted file name fault other), said.1, said.2)
parted_said file name fault (Err f) other said = tt

pub other_said : (file name : Word) (fault : StartFault) (e : Ended) → fault ≡ start.OtherConfig → e ≡ input_ended file (codes "other config") → (Err e ≡ or_parted file name (Err fault)) × IsReadEnd e.status × (IsOutside fault → ⊥)
other_said file name fault e same said =
    subst (λ (f : StartFault). (Err e ≡ or_parted file name (Err f)) × IsReadEnd e.status × (IsOutside f → ⊥)) (sym same)
    (ap Err said, inr (inl (ap (λ (x : Ended). x.status) said ∙ input_status file (codes "other config"))), λ h. h)
