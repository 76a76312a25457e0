mod Risen
mod Messages
mod Collected
mod WrittenVolumes
mod WrittenAgain
