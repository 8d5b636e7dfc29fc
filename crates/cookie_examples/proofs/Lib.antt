mod FollowLemmas
mod ShownLemmas
