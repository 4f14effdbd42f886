-- One answer only, for each entry of this crate. Assumes nothing.
use mathlib.Core.Path.{sym, ◌∙◌}
use Rattle.words.proofs.Unique.{OneResult, OneLent}
use Rattle.device_probe.proofs.probe_power_up.Reads as probe-power-up-reads
use Rattle.device_probe.proofs.probe_frame.Reads as probe-frame-reads
use Rattle.device_probe.proofs.probe_work.Reads as probe-work-reads
use Rattle.device_probe.proofs.probe_state.Reads as probe-state-reads

probe_power_up_one : OneResult probe-power-up-reads.Post
probe_power_up_one κs a x y s t p q = p.0 ∙ sym q.0

probe_power_up_one_lent : OneLent probe-power-up-reads.Post (λ κs s. s.1.0.now)
probe_power_up_one_lent κs a x y s t p q = p.1 ∙ sym q.1

probe_frame_one : OneResult probe-frame-reads.Post
probe_frame_one κs a x y s t p q = p.0 ∙ sym q.0

probe_frame_one_state : OneLent probe-frame-reads.Post (λ κs s. s.1.0.now)
probe_frame_one_state κs a x y s t p q = p.1.0 ∙ sym q.1.0

probe_frame_one_output : OneLent probe-frame-reads.Post (λ κs s. s.1.1.1.0.now)
probe_frame_one_output κs a x y s t p q = p.1.1 ∙ sym q.1.1

probe_work_one : OneResult probe-work-reads.Post
probe_work_one κs a x y s t p q = p.0 ∙ sym q.0

probe_work_one_state : OneLent probe-work-reads.Post (λ κs s. s.1.0.now)
probe_work_one_state κs a x y s t p q = p.1.0 ∙ sym q.1.0

probe_work_one_steps : OneLent probe-work-reads.Post (λ κs s. s.1.1.1.0.now)
probe_work_one_steps κs a x y s t p q = p.1.1.0 ∙ sym q.1.1.0

probe_work_one_image : OneLent probe-work-reads.Post (λ κs s. s.0.now)
probe_work_one_image κs a x y s t p q = p.1.1.1 ∙ sym q.1.1.1

probe_state_one : OneLent probe-state-reads.Post (λ κs s. s.0.now)
probe_state_one κs a x y s t p q = p ∙ sym q
