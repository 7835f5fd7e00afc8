-- The worked rows compute.
use Rattle.std.specs.Prelude.{refl}
use Rattle.laws_of_states.specs.SampleRows.{ClockRows, DialogueRows, LockRows, EndRows, HelloRows, JobRows, AccessRows, RuleRows, SerialRows, MadeRows, RedeliveryRows}
use Rattle.laws_of_states.proofs.abstract_examples.Computing.{monitor}

pub clock_rows : ClockRows
unfolding monitor
clock_rows = record { tick = refl; limit = refl; kept = refl }

pub dialogue_rows : DialogueRows
unfolding monitor
dialogue_rows = record { step = refl; resumed = refl; restarted = refl; not_restarted = refl; keep = refl; keep_listed = refl; keep_resumed = refl; dropped = refl; dropped_in_task = refl; handed_on = refl; inputs = refl; nothing_to_show = refl }

pub lock_rows : LockRows
unfolding monitor
lock_rows = record { counted = refl; crossed = refl; late = refl; unlocked = refl; noted = refl }

pub end_rows : EndRows
unfolding monitor
end_rows = record { causes = refl; follow = refl; back = refl; classed = refl; not_classed = refl }

pub hello_rows : HelloRows
unfolding monitor
hello_rows = record { overflow = refl; no_pend = refl; no_follow_up = refl; too_long = refl; too_many_gssbs = refl; too_many_lssbs = refl; cut = refl; no_target = refl; no_moment = refl; at_a_clock = refl; past_a_clock = refl }

pub job_rows : JobRows
unfolding monitor
job_rows = record { numbered = refl; numbered_listed = refl; taken = refl; taken_listed = refl; taken_again = refl; done_listed = refl; due = refl; full = refl; printed = refl; blocks = refl; blocks_listed = refl; spent = refl; spent_listed = refl }

pub access_rows : AccessRows
unfolding monitor
access_rows = record { rule = refl; lterm = refl; long = refl; follow_up = refl; job = refl }

pub redelivery_rows : RedeliveryRows
unfolding monitor
redelivery_rows = record { twice = refl; gone = refl; printed = refl; shown = refl; dead_letter = refl; serial = refl }

pub rule_rows : RuleRows
unfolding monitor
rule_rows = record { sign_on = refl; too_long_input = refl; at_the_limit = refl; no_part_left = refl; wrong_kind = refl; second_init = refl; follow_up_first = refl; no_name = refl; no_gssb = refl; empty_block = refl; not_held = refl; read_away = refl; broken = refl; stays = refl; back_to_ready = refl }

pub serial_rows : SerialRows
unfolding monitor
serial_rows = record { counted = refl; crossed = refl; late = refl; unlocked = refl; causes = refl; follow = refl; back = refl; numbered = refl; not_durable = refl; stale_row = refl; idle_note = refl; no_refusal = refl; jobs = refl; made = refl }

pub made_rows : MadeRows
unfolding monitor
made_rows = record { one = refl; hundred = refl }
